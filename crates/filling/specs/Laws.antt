-- Laws, in the order in which they lean on each other.
pub mod Shape
pub mod Records
pub mod Putting
