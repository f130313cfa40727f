pub mod Sheet
pub mod Writing
