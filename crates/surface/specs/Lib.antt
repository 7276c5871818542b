pub mod Runoff
pub mod Surface
pub mod Same
