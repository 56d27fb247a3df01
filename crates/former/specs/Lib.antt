-- Definitions, in the order of reading.
pub mod Former
pub mod Converted
-- An example of them.
pub mod Cases
