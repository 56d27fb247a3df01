-- Definitions.
pub mod Bare
pub mod Wrote
-- What is proved of them.
pub mod Laws
