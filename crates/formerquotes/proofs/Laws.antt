-- Laws, in the order in which they lean on each other.
pub mod Evaluation
pub mod Values
pub mod Agreed
