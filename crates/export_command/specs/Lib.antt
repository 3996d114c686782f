pub mod Exchanged
pub mod ExportWorks
