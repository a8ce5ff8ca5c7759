pub mod ClosedAs
