pub mod Bits
pub mod Examples
pub mod Game
pub mod Judged
pub mod Laws
pub mod Models
pub mod Rows
pub mod Runs
