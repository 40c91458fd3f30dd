pub mod Laws
pub mod Brackets
pub mod PrintedLaws
