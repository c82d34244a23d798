-- Definitions that only the proofs of bodies use: no contract of a public function cites them.
pub mod Graph
pub mod Judgement
pub mod Marking
pub mod DefinitionRef
pub mod Positions
pub mod Resolving
