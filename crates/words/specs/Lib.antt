-- Definitions.
pub mod Words
-- What is proved of them.
pub mod Laws
