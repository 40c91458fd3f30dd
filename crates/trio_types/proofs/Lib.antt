-- The lemmas of the crate.
mod Formed
pub mod Arguments
pub mod Atoms
pub mod Bounded
pub mod BoundsAt
pub mod CellNumbers
pub mod CellOrder
pub mod Contained
pub mod CountsAt
pub mod Declared
pub mod Domains
pub mod Inductions
pub mod Integers
pub mod KindsAt
pub mod Lists
pub mod NamesAt
pub mod Operators
pub mod Reading
pub mod ShapeAt
pub mod Specs
pub mod TruthAt
pub mod ValueAt
pub mod Verdicts
