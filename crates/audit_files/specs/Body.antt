-- Definitions that only the proofs of bodies use: no contract of a public function cites them.
pub mod Gathering
pub mod Plain
pub mod Files
pub mod Requests
pub mod Rows
pub mod Sinking
