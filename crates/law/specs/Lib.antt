pub mod Refusals
pub mod Answers
pub mod History
pub mod Theorems
