pub mod Paths
pub mod Supplies
pub mod Files
pub mod Unfolding
pub mod Load
pub mod FaultFiles
pub mod Included
pub mod Body
