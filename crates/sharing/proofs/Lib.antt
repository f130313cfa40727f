pub mod Secrecy
pub mod RoundTrip
pub mod Opening
pub mod Calls
pub mod PaddedSecrecy
mod Changes
pub mod PoolSecrecy
pub mod OpeningPadded
pub mod PaddedCalls
pub mod PoolCalls
pub mod LengthsCalls
pub mod Range
pub mod RebuildCalls
pub mod RebuildSplit
pub mod Divisors
pub mod Starred
