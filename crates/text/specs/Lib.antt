pub mod StateBounds
