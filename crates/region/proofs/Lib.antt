pub mod Exactness
pub mod Passing
pub mod Subject
pub mod FirstFound
