pub mod Kinds
pub mod Unknown
pub mod Reach
pub mod Subjects
pub mod Idle
pub mod Counts
pub mod Laws
pub mod Body
