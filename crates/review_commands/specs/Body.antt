pub mod Reviewing
pub mod Surveying
pub mod Expanding
pub mod Pairing
pub mod Knowing
pub mod Paths
pub mod AddressRows
