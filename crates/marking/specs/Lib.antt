-- Definitions, in the order of reading.
pub mod Nodes
pub mod Marks
pub mod Opening
-- What is proved of them.
pub mod Laws
