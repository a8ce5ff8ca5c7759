pub mod TwoLayers
