pub mod FormCompared
pub mod SameGap
