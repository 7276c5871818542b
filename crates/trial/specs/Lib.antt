pub mod Bare
pub mod TableRuns
