-- What is proved of the definitions of specs/.
pub mod Laws
-- Laws that the functions' proofs share.
pub mod Others
pub mod Steps
