pub mod Series
pub mod Refusals
pub mod Conditions
pub mod Changes
pub mod Good
