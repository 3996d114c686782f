pub mod PageWorks
