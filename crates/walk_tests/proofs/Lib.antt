mod Longer
mod Each
mod Consistency
mod Drawn
