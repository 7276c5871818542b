pub mod Overwrites
pub mod Decimals
pub mod Joins
