pub mod TailLeft
pub mod TailBytes
pub mod TailRows
pub mod TailJoined
