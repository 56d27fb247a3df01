-- Definitions.
pub mod Sharing
-- What is proved of them.
pub mod Laws
