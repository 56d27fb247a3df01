-- Laws that the functions' proofs share.
pub mod Steps
pub mod Walk
