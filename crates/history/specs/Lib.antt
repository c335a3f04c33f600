pub mod Noting
pub mod Running
