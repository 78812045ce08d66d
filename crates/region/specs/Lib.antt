pub mod Exact
pub mod Judged
pub mod Parts
pub mod Subject
