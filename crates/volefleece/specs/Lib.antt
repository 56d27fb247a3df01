-- Definitions, in the order of reading.
pub mod Numbers
pub mod BothDesks
-- What is proved of them.
pub mod Laws
