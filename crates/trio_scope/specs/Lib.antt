pub mod Places
pub mod Gather
pub mod Names
pub mod Table
pub mod Scope
