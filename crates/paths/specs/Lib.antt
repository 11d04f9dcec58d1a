pub mod Best
pub mod Bids
pub mod Labels
pub mod Plan
pub mod Keys
pub mod Search
pub mod Promises
pub mod Ways
