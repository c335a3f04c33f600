pub mod Matching
pub mod Children
pub mod Continuing
