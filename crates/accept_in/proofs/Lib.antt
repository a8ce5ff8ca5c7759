pub mod CountedRun
pub mod LentSteps
pub mod ZerosMarked
