pub mod MendableLaws
