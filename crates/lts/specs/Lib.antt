pub mod Lts
pub mod Joined
