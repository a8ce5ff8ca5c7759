pub mod LineBounds
