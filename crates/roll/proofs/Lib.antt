pub mod First
mod Places
