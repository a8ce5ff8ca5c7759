pub mod Bits
pub mod Masks
pub mod BitWords
pub mod BitRuns
pub mod RunWords
pub mod Wholes
