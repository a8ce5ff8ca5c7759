pub mod ExtentLaws
pub mod FoundExtents
