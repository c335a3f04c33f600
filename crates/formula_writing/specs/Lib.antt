pub mod Brackets
pub mod LineTexts
