pub mod Beginnings
pub mod MemberLists
pub mod Faults
