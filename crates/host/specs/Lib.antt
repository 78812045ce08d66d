pub mod Answers
pub mod Served
pub mod Whole
