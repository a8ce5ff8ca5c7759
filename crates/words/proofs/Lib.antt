pub mod WordRuns
pub mod Numerals
