pub mod Listing
pub mod Refusals
pub mod Answers
pub mod Readers
pub mod Phrases
pub mod Wholes
