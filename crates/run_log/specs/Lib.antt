pub mod Answers
pub mod Cursor
pub mod Log
