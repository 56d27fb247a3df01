-- Definitions, in the order of reading.
pub mod Tests
pub mod Laws
