-- Definitions, in the order of reading.
pub mod Nodes
pub mod Evaluate
pub mod Closed
pub mod ListPairs
pub mod Evaluator
pub mod Shown
