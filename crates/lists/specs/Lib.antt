-- Definitions, in the order of reading.
pub mod Streams
pub mod Pairs
pub mod Operations
pub mod Reading
-- What is proved of them.
pub mod Laws
