pub mod Split
pub mod SplitPadded
pub mod Forms
pub mod Columns
pub mod Sources
