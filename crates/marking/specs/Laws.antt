-- Laws, in the order in which they lean on each other.
pub mod Equal
pub mod Turns
pub mod Digits
pub mod Marking
pub mod Opening
