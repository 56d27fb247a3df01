-- Laws of the definitions of the same name.
pub mod Buffers
