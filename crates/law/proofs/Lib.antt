pub mod Guarding
pub mod Judging
pub mod Reaching
pub mod Telling
pub mod Joining
pub mod Holding
pub mod Lawful
