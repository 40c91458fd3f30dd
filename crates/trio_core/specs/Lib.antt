pub mod Core
pub mod CoreShape
pub mod Sets
pub mod Three
pub mod Stands
pub mod Fits
pub mod Laws
