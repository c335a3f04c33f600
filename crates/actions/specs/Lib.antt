pub mod Actions
pub mod Text
