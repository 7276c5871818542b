pub mod Rocks
pub mod SmallDays
pub mod SmallRuns
pub mod BareBasin
pub mod NineRuns
