mod Written
mod Decimal
mod SheetText
pub mod Examples
pub mod Laws
