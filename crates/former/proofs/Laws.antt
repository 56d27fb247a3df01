-- Laws, in the order in which they lean on each other.
pub mod Records
pub mod Weights
pub mod Converted
pub mod Apart
pub mod Converting
