pub mod Warm
