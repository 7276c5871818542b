pub mod Making
pub mod Layers
pub mod Soils
pub mod Profiles
pub mod Alike
pub mod Downward
pub mod Seeping
