pub mod Roots
pub mod Shifts
pub mod Courses
