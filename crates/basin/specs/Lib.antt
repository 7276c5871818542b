pub mod Tables
pub mod Limits
pub mod Questions
pub mod Day
pub mod Run
pub mod Loops
pub mod Calls
pub mod Law
