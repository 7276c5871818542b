pub mod Loam
