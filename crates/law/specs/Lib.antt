pub mod Upstream
pub mod Agreement
