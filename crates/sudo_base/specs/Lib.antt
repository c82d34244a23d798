pub mod NameEntry
pub mod NameIndices
pub mod Body
