pub mod Splits
pub mod Spellings
pub mod Readings
pub mod Loadings
