-- Laws.
pub mod Buffers
