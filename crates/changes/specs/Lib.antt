pub mod TableChanges
