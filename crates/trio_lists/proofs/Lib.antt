-- The lemmas of the crate.
pub mod Permuted
pub mod Filters
pub mod Unique
