pub mod Paths
pub mod Resolving
pub mod Reading
pub mod Laws
