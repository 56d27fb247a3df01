-- Laws, in the order in which they lean on each other.
pub mod Admits
pub mod PassLists
pub mod Covered
pub mod InOrder
pub mod Unpaired
pub mod Reached
pub mod CaseI
