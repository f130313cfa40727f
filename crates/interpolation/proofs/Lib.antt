mod Polynomial
mod Above
mod Divisors
mod Unique
mod Through
mod Lagrange
mod Weights
mod Remainders
mod OpeningRows
mod ValueWeights
mod Table
mod Row
mod Rows
pub mod RowValues
pub mod Laws
pub mod Examples
