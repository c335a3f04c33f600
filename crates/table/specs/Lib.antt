pub mod Meaning
pub mod Index
pub mod Answers
pub mod Limiting
