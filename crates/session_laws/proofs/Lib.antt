mod Draws
mod Comes
mod Examples
