pub mod Draining
pub mod Repeated
pub mod Single
pub mod Twins
