-- Definitions.
pub mod Rewritten
pub mod Found
-- What is proved of them.
pub mod Laws
