mod BasisAnswers
mod BasisTable
mod Doublings
mod Writes
mod Readings
mod RowStep
mod Skips
mod CountedScheme
mod RowFacts
mod RowFilling
mod ShareFilling
mod RowOrder
mod TurnSearch
mod Reading
mod Lending
mod NotTaken
mod EndSearch
mod OpenerAnswers
mod PaddedAnswers
mod RebuildAnswers
mod RangeAnswers
mod RangeLaws
pub mod Examples
pub mod Laws
