pub mod Leftovers
pub mod Arrays
