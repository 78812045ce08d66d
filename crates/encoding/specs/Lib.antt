pub mod Literals
pub mod Clauses
pub mod Holding
pub mod Laws
