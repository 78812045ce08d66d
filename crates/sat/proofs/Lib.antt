pub mod Checks
pub mod Decisions
pub mod Laws
pub mod Loops
pub mod Narrowing
pub mod Cases
