pub mod Cut
pub mod Number
