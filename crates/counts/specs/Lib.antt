pub mod MarkedCount
