-- Definitions.
pub mod Triangular
pub mod Entries
