pub mod Reading
pub mod Words
pub mod Forms
pub mod Grammar
pub mod Depth
pub mod Answer
pub mod Exact
pub mod Shape
