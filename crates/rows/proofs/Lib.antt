pub mod Scheme
mod Groups
mod Steps
mod Over
pub mod Laws
pub mod Points
