-- Definitions.
pub mod Texts
-- What is proved of them.
pub mod Laws
