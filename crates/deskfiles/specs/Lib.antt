-- Definitions, in the order of reading.
pub mod Files
pub mod Cases
