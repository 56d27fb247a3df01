-- Laws.
pub mod BothDesks
