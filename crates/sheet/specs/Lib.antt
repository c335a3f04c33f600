pub mod Parts
pub mod Cursors
pub mod Lines
pub mod Reading
