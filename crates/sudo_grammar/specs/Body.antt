-- Definitions that only the proofs of bodies use. Of contracts, those of laws about the states of the parser cite them,
-- and the ghost fields of a policy.
pub mod Includes
pub mod States
pub mod Refused
pub mod Reading
pub mod Remaining
