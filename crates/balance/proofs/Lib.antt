pub mod Conserved
pub mod Alike
