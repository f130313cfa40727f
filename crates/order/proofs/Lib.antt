pub mod ReadingOrder
pub mod RowsTaken
pub mod Examples
