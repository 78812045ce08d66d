pub mod Advance
pub mod Faults
pub mod Format
pub mod Line
pub mod Read
pub mod Writing
