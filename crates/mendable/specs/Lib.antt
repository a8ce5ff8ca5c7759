pub mod ChangedRefused
