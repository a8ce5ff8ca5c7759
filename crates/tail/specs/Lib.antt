pub mod TailPut
