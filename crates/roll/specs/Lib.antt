pub mod Faults
pub mod First
pub mod Rolls
