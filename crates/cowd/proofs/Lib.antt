pub mod CowdKept
