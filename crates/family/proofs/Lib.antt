pub mod Sum
pub mod Message
pub mod Padding
pub mod Shares
pub mod Examples
pub mod Mask
pub mod Exactness
