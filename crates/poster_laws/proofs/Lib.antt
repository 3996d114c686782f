mod Showing
mod InShapes
mod Pieces
