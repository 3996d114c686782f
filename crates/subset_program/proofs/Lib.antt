mod Tails
mod Places
mod Filling
mod Firsts
mod Walking
mod Heads
