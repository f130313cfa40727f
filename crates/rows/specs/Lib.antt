pub mod Origins
pub mod Sources
pub mod Points
