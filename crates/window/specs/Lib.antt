pub mod Run
pub mod TakenRuns
