-- The lemmas of the crate.
pub mod Bits
pub mod Cutting
pub mod Truths
pub mod Rows
pub mod Undecided
pub mod ReadOrder
pub mod Atoms
pub mod OnlyTable
pub mod Settling
pub mod Lawful
pub mod Enough
mod Leasts
mod Readings
mod Wanted
mod Kept
