pub mod Days
pub mod Lines
pub mod Promises
pub mod Steps
pub mod Files
