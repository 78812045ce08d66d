pub mod Faults
pub mod Parts
pub mod Settled
pub mod Sound
pub mod Step
