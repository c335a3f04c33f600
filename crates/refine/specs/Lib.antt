pub mod ByteMarks
pub mod Classes
pub mod Apart
pub mod Codes
pub mod Marks
pub mod Signatures
pub mod Rounds
pub mod Climbs
