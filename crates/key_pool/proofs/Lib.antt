mod Room
mod WaysOut
pub mod Runs
pub mod Laws
mod Examples
