pub mod Escaping
pub mod Styles
pub mod Elements
pub mod Courses
pub mod Picture
