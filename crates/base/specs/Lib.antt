pub mod Pick
pub mod Rounding
pub mod Numbers
pub mod Strings
pub mod Bytes
pub mod Rows
pub mod SumsBelow
