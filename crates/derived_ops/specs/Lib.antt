pub mod Shape
pub mod Rewriting
pub mod Rewritten
pub mod Terms
pub mod Distances
pub mod Adding
pub mod Goals
