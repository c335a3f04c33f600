pub mod Splitting
pub mod Skipping
