mod Going
mod Naming
pub mod Telling
mod Valuing
mod Writing
