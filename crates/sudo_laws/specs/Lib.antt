pub mod InForce
pub mod Longer
pub mod Replaced
pub mod Slashes
pub mod SoundAliases
pub mod Spelled
pub mod WrittenOut
