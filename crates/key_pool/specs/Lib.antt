pub mod Pool
pub mod Run
