pub mod Polynomial
pub mod Interpolation
pub mod Divisors
pub mod Opening
pub mod RowValue
