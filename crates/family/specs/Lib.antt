pub mod Message
pub mod Padding
pub mod Family
pub mod Secrecy
pub mod Exactness
