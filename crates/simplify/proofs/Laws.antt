-- Laws, in the order in which they lean on each other.
pub mod Same
pub mod Keeps
pub mod Refines
pub mod Context
pub mod Forests
pub mod Blocks
pub mod Rules2And3
pub mod Rule4
pub mod Rule5
pub mod Rules6And7
pub mod Rule8
pub mod Rule9
pub mod Stepping
pub mod Stepwise
