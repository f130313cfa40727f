pub mod ReadingOrder
pub mod RowsTaken
