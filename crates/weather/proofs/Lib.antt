pub mod Mild
pub mod Limited
pub mod Same
