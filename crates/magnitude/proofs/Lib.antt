pub mod WithoutSign
