pub mod Limit
pub mod Interest
pub mod Keeps
pub mod Dropped
