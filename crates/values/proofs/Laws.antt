-- Laws, in the order in which they lean on each other.
pub mod Values
pub mod Set
