-- Definitions.
pub mod Buffers
-- What is proved of them.
pub mod Laws
