-- Definitions, in the order of reading.
pub mod Nodes
pub mod Graft
pub mod Renaming
pub mod Splice
-- What is proved of them.
pub mod Laws
