-- Definitions.
pub mod Steps
-- What is proved of sums and unions with a short list.
pub mod Laws
