-- Definitions, in the order of reading.
pub mod Numbers
pub mod Nodes
pub mod Trees
pub mod Questions
pub mod Limits
pub mod Bytes
pub mod Table
pub mod Passes
pub mod Asking
pub mod Checking
pub mod Survey
-- Trees as examples write them.
pub mod Notation
pub mod Cases
