-- Definitions, in the order of reading.
mod Nodes
pub mod Children
pub mod Settled
pub mod Blocks
-- What is proved of them.
pub mod Laws
