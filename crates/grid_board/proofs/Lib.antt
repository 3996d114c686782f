pub mod Within
pub mod Marks
pub mod Ways
pub mod OnBoards
