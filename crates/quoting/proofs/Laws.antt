-- Laws, in the order in which they lean on each other.
pub mod Answers
pub mod Lent
pub mod Figures
pub mod Evaluated
pub mod Branches
pub mod Promises
