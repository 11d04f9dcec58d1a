pub mod Laid
pub mod Found
pub mod Ended
pub mod Promises
