pub mod Cells
pub mod Held
