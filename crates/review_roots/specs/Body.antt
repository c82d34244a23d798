-- Definitions that only the proofs of bodies use: no contract of a public function cites them.
pub mod Heads
pub mod Effects
pub mod Raising
pub mod Alike
pub mod Rows
pub mod Candidates
pub mod Towards
pub mod Found
pub mod Firsts
pub mod Unnamed
pub mod Kept
pub mod Naming
pub mod Passing
pub mod May
pub mod Settled
pub mod Deciding
