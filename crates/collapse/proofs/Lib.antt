pub mod Checks
pub mod CollapseSteps
