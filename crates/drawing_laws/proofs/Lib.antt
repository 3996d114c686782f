mod Steps
mod Curves
mod Clockwise
mod Legal
mod Planar
mod NoRoute
mod Examples
