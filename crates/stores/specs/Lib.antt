pub mod Meaning
pub mod Outcome
pub mod Groundwater
pub mod Same
