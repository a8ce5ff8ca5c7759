pub mod WalkSteps
pub mod WalkRest
pub mod CountedBlocks
