-- Laws, in the order in which they lean on each other.
pub mod Retimed
pub mod Answering
