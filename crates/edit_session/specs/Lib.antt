pub mod Sessions
pub mod Scripts
pub mod DrawTexts
pub mod SessionWorks
pub mod Stages
pub mod Promises
pub mod Playing
