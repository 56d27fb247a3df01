-- Laws.
pub mod Bytes
