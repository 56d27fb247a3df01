-- Definitions, in the order of reading.
pub mod Answers
pub mod Promises
pub mod Making
-- An example.
pub mod Cases
