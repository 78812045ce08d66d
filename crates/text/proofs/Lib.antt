pub mod Cuts
pub mod Fields
pub mod Inverse
