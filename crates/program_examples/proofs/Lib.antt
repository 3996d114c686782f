mod Words
mod Inputs
mod Runs
mod Pieces
mod Sessions
mod Scripts
mod Maps
mod Commands
