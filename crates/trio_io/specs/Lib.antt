pub mod MemoryShelf
pub mod MemorySink
pub mod Outside
pub mod RealShelf
pub mod Words
