pub mod LoadLemmas
pub mod EntryPlaces
pub mod ByteOrder
pub mod OneLoad
