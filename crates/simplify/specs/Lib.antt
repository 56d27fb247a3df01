-- Definitions, in the order of reading.
pub mod Nodes
pub mod Same
pub mod Rules
pub mod Steps
pub mod Cases
