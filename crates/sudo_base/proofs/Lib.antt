pub mod Booleans
pub mod Options
pub mod Lists
pub mod IndexLemmas
mod NamesLemmas
