-- Laws, in the order in which they lean on each other.
pub mod Trees
pub mod Addresses
pub mod Bytes
pub mod RoundTrip
pub mod Canonical
pub mod Asking
pub mod Accepted
pub mod NotRefused
pub mod Written
pub mod EveryNode
pub mod Limits
pub mod Reading
pub mod Survey
pub mod Refusal
pub mod Tables
