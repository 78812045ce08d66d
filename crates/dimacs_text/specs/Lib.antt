pub mod Words
pub mod Lines
pub mod Faults
pub mod Entries
pub mod Headers
pub mod Texts
pub mod Loads
