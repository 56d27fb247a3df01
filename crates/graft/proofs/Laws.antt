-- Laws, in the order in which they lean on each other.
pub mod Renamed
pub mod Grafted
pub mod Limits
pub mod Result
pub mod Figures
pub mod Making
pub mod Answering
