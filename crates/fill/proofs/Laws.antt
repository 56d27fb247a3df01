-- Laws, in the order in which they lean on each other.
pub mod Asking
pub mod Fields
pub mod Lists
pub mod Results
pub mod Writing
pub mod Answering
