pub mod AcceptedHeader
pub mod Unmarked
