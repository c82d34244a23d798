pub mod Comparing
pub mod Changing
