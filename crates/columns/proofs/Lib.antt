mod Gathered
mod FlatColumns
mod Batches
pub mod Laws
