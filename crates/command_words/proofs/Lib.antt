pub mod Apart
pub mod OnLiterals
mod Reading
mod Numbers
mod Building
