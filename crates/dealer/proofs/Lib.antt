mod Filled
mod Rows
mod Batches
mod Followed
mod Dealing
pub mod Examples
pub mod Laws
