pub mod GrainPut
pub mod Loops
