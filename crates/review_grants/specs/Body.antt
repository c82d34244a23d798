pub mod Heads
pub mod Noted
pub mod Pending
pub mod Who
