pub mod WordsLaws
pub mod WordsLoop
pub mod FrameLaws
