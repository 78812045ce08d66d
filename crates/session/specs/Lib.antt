pub mod Faults
pub mod Laws
pub mod Outcomes
pub mod Sessions
pub mod Views
