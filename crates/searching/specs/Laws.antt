pub mod Search
pub mod Found
