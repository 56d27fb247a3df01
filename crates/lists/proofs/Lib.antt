-- Laws that the functions' proofs share: pairs stored and read, and then what each operation's loop keeps.
pub mod Stored
pub mod Suffix
pub mod Copies
pub mod Adds
pub mod Merges
pub mod Caps
pub mod Totals
