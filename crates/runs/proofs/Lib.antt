mod Adding
mod Arriving
mod Finding
mod Following
mod Marking
pub mod Moving
mod Stepping
