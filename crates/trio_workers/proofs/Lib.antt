-- The lemmas of the crate.
pub mod Advanced
pub mod Found
