pub mod Refusals
pub mod Subcommands
pub mod SenderLemmas
pub mod Statuses
pub mod Steps
pub mod AuditSteps
pub mod Openings
