pub mod RisingLists
mod Parts
mod CrossingOrder
pub mod JoinLemmas
mod UseLemmas
mod UseOrder
mod RowSearch
pub mod TableLemmas
pub mod NodeLemmas
pub mod Turning
pub mod Searching
pub mod Walking
pub mod Numbering
pub mod NetworkRows
pub mod ChainEdges
pub mod ChainPaths
pub mod ChainSteps
pub mod ChainPieces
pub mod ChainLaws
pub mod ChainSegments
pub mod ChainThrough
pub mod SegmentFacts
mod ConsistencyLists
mod ConsistencySegments
mod ConsistencyParts
pub mod Consistency
mod GraphLemmas
