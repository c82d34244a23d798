pub mod Stretches
pub mod FaultyLines
pub mod Names
pub mod FirstWords
pub mod Tags
pub mod Addresses
pub mod Hints
