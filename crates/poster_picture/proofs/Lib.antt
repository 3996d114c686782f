mod Writing
mod Behind
mod Gathering
mod Noting
mod Sorting
mod Joining
mod Lining
mod Wholes
