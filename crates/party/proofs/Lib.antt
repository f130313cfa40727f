mod Handing
pub mod Examples
pub mod Laws
