pub mod Agreement
pub mod Rebuild
