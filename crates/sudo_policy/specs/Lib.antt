pub mod Definitions
pub mod Following
pub mod Found
pub mod Positions
pub mod Resolving
pub mod Written
pub mod Checking
pub mod Body
