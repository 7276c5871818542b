pub mod Flows
pub mod Making
pub mod Nexts
pub mod Records
pub mod Routing
