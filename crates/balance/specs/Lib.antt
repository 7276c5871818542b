pub mod Course
pub mod Tables
pub mod Agreement
