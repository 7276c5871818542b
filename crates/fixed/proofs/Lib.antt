pub mod Bits
pub mod Quotients
pub mod Bounds
