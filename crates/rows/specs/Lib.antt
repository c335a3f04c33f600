pub mod Answers
pub mod Digits
pub mod Fields
pub mod Format
pub mod Held
pub mod Reading
pub mod Refusals
pub mod Verdict
