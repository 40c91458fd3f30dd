pub mod Fetched
pub mod Refusals
pub mod Scanned
pub mod Serving
pub mod Told
