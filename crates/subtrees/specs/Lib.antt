-- Definitions, in the order of reading.
mod Nodes
pub mod Parts
pub mod Facts
pub mod Children
-- What is proved of them.
pub mod Laws
