pub mod LayerSteps
