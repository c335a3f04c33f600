pub mod Held
pub mod Padding
