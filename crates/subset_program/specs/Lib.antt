pub mod PlainRows
pub mod Tables
