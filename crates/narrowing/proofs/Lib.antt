pub mod Sifts
pub mod Trying
