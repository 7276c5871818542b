pub mod Shares
pub mod Limits
pub mod Decay
pub mod Moisture
