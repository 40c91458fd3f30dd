-- The lemmas of the crate.
mod Contained
pub mod Modeled
pub mod Represented
pub mod Counted
pub mod SureInTable
mod Listed
pub mod SetsFit
mod Rooted
mod Singled
mod HoldsInTable
pub mod CodeReads
