pub mod Images
pub mod Examples
pub mod ExampleLayers
