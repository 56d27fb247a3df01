-- Definitions.
pub mod Probes
-- What is proved of them.
pub mod Laws
