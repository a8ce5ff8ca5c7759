pub mod Words
pub mod Text
pub mod Said
pub mod Extents
pub mod Keys
pub mod Line
pub mod Descriptor
pub mod Records
