-- Definitions that only the proofs of bodies use: no contract of a public function cites them.
pub mod Common
pub mod Pieces
pub mod Refusals
pub mod Rules
pub mod Tokens
