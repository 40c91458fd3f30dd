pub mod Spelling
pub mod Tokens
pub mod Lexemes
pub mod Reading
pub mod Spans
