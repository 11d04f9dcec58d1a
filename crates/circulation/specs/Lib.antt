pub mod Sweep
pub mod Run
pub mod Promises
pub mod Pushable
pub mod Routes
