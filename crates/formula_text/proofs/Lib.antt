pub mod Passing
pub mod Acting
pub mod Sizes
pub mod Joining
pub mod Opening
pub mod Meaning
pub mod Ending
