pub mod Checked
pub mod AcceptedHeaders
pub mod UnmarkedSteps
pub mod UnmarkedLeft
