mod Meetings
mod Folds
mod Homes
mod Taken
