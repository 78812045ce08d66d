pub mod Codes
pub mod Steps
pub mod Stores
pub mod Ranges
