mod Composing
mod Walking
mod Counting
mod Beginning
mod Listing
mod Forking
mod RootNodes
mod RenumberedTrees
mod OwnPlaces
mod OwnProblems
mod OwnNumbers
mod LiveOutcomes
mod OwnOutcomes
mod RenamedDuals
mod OwnDuals
pub mod PutOrders
mod OwnOrders
mod OwnShown
mod OwnSearches
mod Serving
mod Solving
mod HeldParts
pub mod HeldLists
