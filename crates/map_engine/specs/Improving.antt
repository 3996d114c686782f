-- The map of a feed after more moves on its drawing.
use Rattle.std.specs.Prelude.{◌≡◌, ◌≤◌, ℕ, Result, Ok}
use Rattle.map_base.specs.Settings.{Choices}
use Rattle.map_method.specs.Methods.{MethodChoices}
use Rattle.transit_feed.specs.Feeds.{Feed}
use Rattle.map_faults.specs.declared.fault.MakeFault.{MakeFault}
use Rattle.graph_maps.specs.Making.{SolvedMap, if_solved}
use Rattle.graph_maps.specs.Improving.{ImprovedBytes, improved_map, IsAtTheEnd}
use Rattle.map_engine.specs.Tables.{subject_of}
use Rattle.map_engine.specs.Making.{solved_outcome}
use Rattle.map_engine.specs.Promises.{IsMade}

-- The map that `make` makes, its drawing after at most so many moves more; or the cause why `make` makes none.
abbrev pub improve_outcome : Feed → Choices → MethodChoices → ℕ → Result ImprovedBytes MakeFault
improve_outcome feed choices method moves = if_solved (improved_map (subject_of feed choices) moves)
    (solved_outcome feed choices method)

-- What moves promise of a map: it is one that is made, so it shows exactly the line graph, with what its certificate
-- proves of the line orders, and the check says yes to it and its certificate. Its drawing is no heavier than before,
-- and all moves were made, or none makes it lighter.
pub record IsImprovedMap (feed : Feed) (choices : Choices) (method : MethodChoices) (moves : ℕ)
    (improved : ImprovedBytes) : Type 0 where
  pub made : IsMade feed choices method.claim improved.map
  pub no_heavier : improved.improvement.after ≤ improved.improvement.before
  pub solved : SolvedMap
  pub of_feed : solved_outcome feed choices method ≡ Ok solved
  pub to_the_end : IsAtTheEnd moves solved.drawn improved.improvement.made
