pub mod Arranging
pub mod Asking
