-- Definitions, in the order of reading.
pub mod Evaluation
pub mod Answers
