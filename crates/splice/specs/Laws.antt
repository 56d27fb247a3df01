-- Laws, in the order in which they lean on each other.
pub mod Sizes
pub mod Renaming
pub mod Splicing
pub mod Splice
