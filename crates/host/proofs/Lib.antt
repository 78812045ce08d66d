pub mod Judging
pub mod OneTelling
pub mod Tellings
