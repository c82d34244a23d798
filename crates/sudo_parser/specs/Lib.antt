pub mod Limits
pub mod Texts
pub mod Parsed
pub mod Body
