pub mod Sections
pub mod Places
