pub mod Sources
pub mod StoredCounted
