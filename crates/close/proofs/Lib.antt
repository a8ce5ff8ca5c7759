pub mod Closable
pub mod CloseSteps
