pub mod Pack
pub mod Snowpack
pub mod Same
