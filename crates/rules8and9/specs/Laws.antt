-- Laws of rule 8, and of rule 9.
pub mod Comparing
pub mod Sharing
pub mod Exit
