mod Voting
mod Summing
