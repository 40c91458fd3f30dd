pub mod Fetches
pub mod Fronts
pub mod Pieces
