pub mod Comparing
pub mod Changes
pub mod ChangeLaws
pub mod Body
