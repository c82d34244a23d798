-- Definitions that only the proofs of bodies use: no contract of a public function cites them.
pub mod Aliases
pub mod Defaults
pub mod Faults
pub mod Gives
pub mod Lists
pub mod Openings
pub mod Rules
pub mod Runas
pub mod Stops
pub mod Unread
pub mod Limits
pub mod Parsed
