pub mod Reading
pub mod Writing
pub mod Hints
pub mod Status
pub mod Clearing
pub mod Checking
pub mod Faults
pub mod Troubles
