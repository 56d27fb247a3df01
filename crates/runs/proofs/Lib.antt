-- What is proved of the definitions of specs/.
pub mod Laws
-- Examples of the definitions.
pub mod Cases
