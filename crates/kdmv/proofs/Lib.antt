pub mod KdmvKept
