mod Shows
mod Marks
mod Cuts
mod Tells
