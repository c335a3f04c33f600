pub mod Bench
pub mod Keeping
pub mod Ready
