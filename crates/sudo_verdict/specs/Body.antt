-- Definitions that only the proofs of bodies use: no contract of a public function cites them.
pub mod Blocks
pub mod Known
pub mod NumberSets
pub mod Queries
pub mod Recalling
pub mod Resolved
pub mod Silence
pub mod Decided
pub mod Found
pub mod Numbers
pub mod Postings
