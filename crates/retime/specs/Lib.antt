-- Definitions, in the order of reading.
pub mod Nodes
pub mod Answers
pub mod Promises
pub mod Previews
-- Examples.
pub mod Cases
