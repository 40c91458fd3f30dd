pub mod Reads
pub mod Rule
pub mod Law
pub mod Held
pub mod Stepped
pub mod Told
