pub mod Answered
pub mod Months
pub mod Places
pub mod Skies
