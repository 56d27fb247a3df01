-- Laws.
pub mod Compare
