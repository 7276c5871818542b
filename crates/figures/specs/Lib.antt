pub mod Small
pub mod Worked
pub mod TwoDays
pub mod Example
