pub mod Posed
pub mod Models
pub mod Branches
pub mod Weight
pub mod Laws
