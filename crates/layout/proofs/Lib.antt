pub mod PartSizes
pub mod EntryRuns
pub mod Padded
pub mod Clipped
pub mod StoredGrains
pub mod GrainsDone
pub mod Image
