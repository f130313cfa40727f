mod TwoBytes
mod Entries
pub mod Passing
mod Laid
mod Lengths
mod Fits
mod Put
mod Head
mod Scanning
mod Lookup
mod Found
mod Given
mod Written
mod Lines
pub mod Theorems
pub mod Calls
pub mod Examples
