pub mod Least
pub mod Lists
pub mod Gathers
pub mod Noted
pub mod Statements
