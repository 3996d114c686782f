pub mod Keys
pub mod Meant
pub mod Seems
pub mod Troubles
