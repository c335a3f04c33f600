pub mod Unlike
pub mod Telling
pub mod Choosing
pub mod Queueing
pub mod Progress
