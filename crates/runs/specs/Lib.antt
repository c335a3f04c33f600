pub mod Reaching
pub mod Wanting
pub mod Layering
pub mod Measuring
