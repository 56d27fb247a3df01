-- Definitions, in the order of reading.
pub mod Values
pub mod Flags
