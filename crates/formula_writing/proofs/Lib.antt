pub mod Ranks
pub mod Texts
pub mod Joints
