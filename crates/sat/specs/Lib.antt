pub mod Clauses
pub mod Faults
pub mod Answers
pub mod Texts
pub mod Worked
