-- Definitions.
pub mod Over
pub mod Records
pub mod Fields
-- What is proved of them.
pub mod Laws
