-- rounds, ways from corners, and ways from their ends
mod Rounds
mod Ways
mod Turned
-- rings and bends: chains between the corners are runs, and beside each other
mod Rings
mod Corners
mod ChainRuns
-- so nodes are served by runs, and the attempts of a pass fit the graph
mod Serving
mod Fitting
-- groups one after another, where a search ends, and what straightening and moves promise
mod Pushed
mod Ending
pub mod Promised
-- copies and comparisons of graphs and walks, and the drawing that routes come to
mod Lists
mod Walks
mod Graphs
mod Straight
