pub mod WordsCounted
