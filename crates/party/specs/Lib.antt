pub mod Prefix
pub mod PrefixPadded
