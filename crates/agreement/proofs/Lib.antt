mod Sources
mod Agreement
mod Named
mod Skipped
pub mod Laws
pub mod Examples
pub mod RebuildExamples
