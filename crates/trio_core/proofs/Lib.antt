-- The lemmas of the crate.
pub mod TermsAt
pub mod Flat
pub mod Standing
pub mod Looks
pub mod Sole
pub mod NodesFit
pub mod NodeTruths
pub mod Decided
pub mod Value3At
pub mod Stays
pub mod Sure
mod Nodes3
pub mod KnownAt
pub mod TermsFit
pub mod TermValues
pub mod Evaluating
