pub mod ReadOn
pub mod HourCame
pub mod WrittenOn
pub mod Answered
pub mod Checked
