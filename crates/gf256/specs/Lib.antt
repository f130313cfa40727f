pub mod Byte
pub mod Polynomials
pub mod Field
pub mod Lanes
