-- The lemmas of the crate.
pub mod Grouped
pub mod Joined
pub mod Marked
pub mod Followed
pub mod Apart
pub mod Unused
