-- Definitions.
pub mod Step
-- What is proved of them.
pub mod Laws
