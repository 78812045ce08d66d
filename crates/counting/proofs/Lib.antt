pub mod Numbers
pub mod Tried
pub mod Written
