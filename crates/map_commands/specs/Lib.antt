pub mod MapWorks
pub mod ImproveWorks
pub mod ImportWorks
pub mod Promises
