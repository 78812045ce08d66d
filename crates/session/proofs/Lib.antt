pub mod Giving
pub mod Home
pub mod Laws
pub mod OneWay
