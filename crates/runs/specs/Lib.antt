-- Definitions, in the order of reading.
pub mod Nodes
pub mod Runs
pub mod InOrder
