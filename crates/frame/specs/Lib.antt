pub mod FrameTold
