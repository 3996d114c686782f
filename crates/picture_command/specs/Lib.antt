pub mod PictureWorks
