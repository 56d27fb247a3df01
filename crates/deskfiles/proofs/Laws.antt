-- Laws.
pub mod Files
