-- The lemmas of the crate.
pub mod Numbers
pub mod Spaced
pub mod Printed
pub mod TextsAt
mod Combining
mod SpacedTexts
pub mod PrintedNames
mod SpacedTerms
mod SpacedFormulas
pub mod CanonicalSpaced
