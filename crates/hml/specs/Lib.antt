pub mod Logic
pub mod Bisimilarity
pub mod Traces
pub mod Runs
pub mod Distinguishing
pub mod Theorems
pub mod Examples
