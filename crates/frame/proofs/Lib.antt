pub mod FrameCounts
pub mod FrameSteps
