pub mod MendTold
