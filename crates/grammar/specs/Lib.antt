pub mod Order
pub mod Grammar
pub mod Verdict
pub mod Machine
pub mod Writing
pub mod Theorems
