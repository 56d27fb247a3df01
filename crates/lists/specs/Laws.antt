-- Laws, in the order in which they lean on each other.
pub mod Sums
pub mod Merge
pub mod MergeLaws
pub mod Falls
pub mod Settled
pub mod Pairs
pub mod Numbers
pub mod Expand
pub mod Cap
pub mod Add
pub mod Union
pub mod Group
