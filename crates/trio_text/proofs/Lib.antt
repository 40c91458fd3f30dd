pub mod Runs
pub mod Spellings
pub mod Longest
pub mod Steps
pub mod Spans
pub mod Ascii
pub mod Total
mod Lines
