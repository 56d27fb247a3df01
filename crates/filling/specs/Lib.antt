-- Definitions, in the order of reading.
mod Nodes
pub mod Fill
-- The same on bytes.
pub mod Records
-- What is proved of them.
pub mod Laws
