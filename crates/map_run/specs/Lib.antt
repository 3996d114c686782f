pub mod Answers
pub mod Commands
pub mod Promises
pub mod Ending
pub mod Headline
pub mod Promise
