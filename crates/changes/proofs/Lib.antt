pub mod CountLaws
pub mod RunsPut
pub mod ByTable
pub mod Unpaired
pub mod ChangesSteps
