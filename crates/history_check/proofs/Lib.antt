-- The lemmas of the crate.
pub mod Windows
pub mod TermsFit
pub mod TermValues
pub mod FormulasFit
pub mod Searches
pub mod Axioms
pub mod AxiomsFit
