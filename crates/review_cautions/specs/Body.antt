-- Definitions that only the proofs of bodies use: no contract of a public function cites them.
pub mod UnusedNames
pub mod Looking
pub mod Signs
pub mod Deciding
