pub mod Days
pub mod Meaning
