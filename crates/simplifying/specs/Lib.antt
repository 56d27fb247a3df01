-- Definitions, in the order of reading.
pub mod Answers
pub mod Demand
pub mod Cases
-- What is proved of them.
pub mod Laws
