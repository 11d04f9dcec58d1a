pub mod Money
pub mod Text
pub mod Cleared
pub mod Written
pub mod Promises
pub mod Entry
pub mod Published
pub mod Whole
