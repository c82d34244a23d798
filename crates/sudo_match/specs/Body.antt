-- Definitions that only the proofs of bodies use: no contract of a public function cites them.
pub mod Closing
pub mod IdEntry
pub mod Shown
pub mod Step
pub mod Beginnings
pub mod Indexing
pub mod Pattern
pub mod Reading
