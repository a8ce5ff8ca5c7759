pub mod Marked
pub mod Taken
pub mod Named
pub mod NamedGrains
