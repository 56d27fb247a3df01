-- Laws, in the order in which they lean on each other.
pub mod Rule
pub mod Entries
