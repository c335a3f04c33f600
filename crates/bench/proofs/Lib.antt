pub mod Taking
pub mod Answering
