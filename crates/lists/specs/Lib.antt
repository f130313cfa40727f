pub mod Each
pub mod Table
pub mod Without
pub mod Differing
pub mod FirstFrom
