pub mod Ascending
pub mod AscendEntries
pub mod Rising
pub mod RowsHeld
