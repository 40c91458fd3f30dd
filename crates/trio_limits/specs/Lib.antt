pub mod Given
pub mod Draft
pub mod Ground
pub mod Counting
pub mod Claims
pub mod Limits
pub mod Totals
