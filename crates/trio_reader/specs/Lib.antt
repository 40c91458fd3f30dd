pub mod Erasure
pub mod TermKinds
pub mod Kinds
pub mod Ranges
pub mod Reading
pub mod Sound
pub mod Laws
