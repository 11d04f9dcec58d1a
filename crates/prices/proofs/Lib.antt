pub mod Rows
pub mod Bounds
pub mod Shapes
pub mod Promised
pub mod Entries
pub mod OneAnswer
