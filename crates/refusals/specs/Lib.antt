-- Definitions, then what is proved of them.
pub mod Refusals
pub mod Laws
