-- Definitions, in the order of reading.
pub mod Answers
pub mod Promises
pub mod Branches
pub mod Lent
pub mod Cases
pub mod BranchCases
pub mod Triangles
pub mod PairedCases
