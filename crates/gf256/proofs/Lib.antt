mod Digits
mod Ring
pub mod Polynomials
mod Inverses
mod Powers
mod Quotients
pub mod Shifting
pub mod Laws
pub mod Examples
