mod Common
-- how the board of a sketch changes, and what it is when something is taken off
mod BoardsOf
mod TakenOff
-- walks step by step, and runs that are laid along a walk that is cut
mod Steps
mod Ranges
mod RunEnds
pub mod RunReads
pub mod FewSteps
mod Laid
mod RunSteps
-- runs and nodes that are taken off and put back; drawings that differ where nodes lie that don't stand
pub mod Takable
mod PutBack
mod TakenBack
mod Alikes
-- pairs of segments that lines join, and what a run adds to the weight of a drawing
mod FieldFacts
pub mod Growing
pub mod Gained
-- what a drawing weighs without runs and nodes, and that they can be put back
mod Restored
pub mod Lifts
mod LiftedGroups
-- bounds: sums of turns, straight ways, prices of turns, the limit of a walk; fewer ports, and runs one after another
mod StraightWays
mod PricedRuns
mod RunBounds
mod LeastTurning
pub mod LaidAll
mod LaidBack
mod LayingAll
mod LayLoop
-- attempts on whole drawings are those on their walks
mod OnWalks
-- and what an attempt takes off, moves and lays
mod Moving
mod AttemptCases
mod AttemptReads
mod TriedGroups
mod Searches
mod Beginning
