pub mod Bytes
pub mod Calendar
pub mod Header
pub mod NormalYears
pub mod Records
pub mod Spans
pub mod Table
