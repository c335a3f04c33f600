pub mod Cutting
pub mod Going
pub mod Naming
pub mod Numbering
pub mod Verdicts
pub mod Ways
