pub mod PartEnd
