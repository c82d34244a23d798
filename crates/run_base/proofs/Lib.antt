pub mod HeldSupplies
pub mod EndingLemmas
pub mod Steps
pub mod RowLemmas
