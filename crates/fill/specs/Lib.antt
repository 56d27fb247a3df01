-- Definitions, in the order of reading.
pub mod Nodes
pub mod Answers
pub mod Promises
-- An example.
pub mod Cases
