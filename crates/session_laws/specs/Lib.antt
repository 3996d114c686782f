pub mod Before
pub mod Works
