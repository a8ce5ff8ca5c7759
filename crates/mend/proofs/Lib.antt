pub mod CopyLaws
pub mod MendSteps
