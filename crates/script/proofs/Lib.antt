pub mod Asks
pub mod Words
