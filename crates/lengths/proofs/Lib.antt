mod Told
pub mod Examples
pub mod Laws
