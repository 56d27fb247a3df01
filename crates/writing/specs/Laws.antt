-- Laws of the definitions of the same name.
pub mod Over
pub mod Records
pub mod Fields
