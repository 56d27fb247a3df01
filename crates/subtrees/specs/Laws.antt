-- Laws, in the order in which they lean on each other.
pub mod Forests
pub mod Parts
pub mod Records
pub mod Facts
pub mod Survey
pub mod Children
