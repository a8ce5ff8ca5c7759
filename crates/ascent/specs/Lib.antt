pub mod Ascend
pub mod Ascended
