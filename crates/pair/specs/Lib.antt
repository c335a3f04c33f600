pub mod Wide
pub mod Joining
pub mod Ways
