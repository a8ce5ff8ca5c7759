pub mod Told
pub mod Windows
pub mod Grouped
