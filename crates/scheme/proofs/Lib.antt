mod BlockLength
mod Multiples
mod Counts
mod Numbers
mod Answers
mod Refusals
mod SchemeFacts
mod Parties
mod Grounds
mod Tried
mod BlocksTold
mod Blocks
pub mod Examples
pub mod Laws
