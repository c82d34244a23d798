-- Definitions that only the proofs of bodies use: no contract of a public function cites them.
pub mod Concluded
pub mod FreshPasses
pub mod Gathered
pub mod Rule
pub mod Run
pub mod Work
