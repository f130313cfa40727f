pub mod Format
pub mod Reading
pub mod Pairs
pub mod Writing
pub mod Archives
pub mod Calls
