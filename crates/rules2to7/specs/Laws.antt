-- Laws: what the rules share, then rules 2 and 5, 3, 4, 6 and 7.
pub mod Children
pub mod Dissolving
pub mod Alone
pub mod Settled
pub mod Blocks
