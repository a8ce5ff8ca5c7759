pub mod TextExamples
pub mod ExamplesParts
