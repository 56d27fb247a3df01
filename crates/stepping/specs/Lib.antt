-- Definitions.
pub mod Steps
-- What is proved of them.
pub mod Laws
