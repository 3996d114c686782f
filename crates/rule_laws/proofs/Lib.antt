pub mod Closing
mod NoneLeft
