pub mod Asked
pub mod Faults
pub mod Held
pub mod Narrow
pub mod Runs
pub mod Searches
pub mod Sizes
