pub mod Regions
pub mod Assembly
pub mod Pool
pub mod Laws
