pub mod CopiesLaws
