pub mod Days
pub mod Text
pub mod File
