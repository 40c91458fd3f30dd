pub mod Multisets
