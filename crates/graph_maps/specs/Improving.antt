-- The map of a line graph after more moves on its drawing.
use Rattle.std.specs.Prelude.{◌≡◌, ◌≤◌, ◌⊎◌, ℕ, Result, Ok}
use Rattle.map_base.specs.Settings.{Choices}
use Rattle.map_method.specs.Methods.{MethodChoices}
use Rattle.graph_core.specs.declared.parts.GraphParts.{GraphParts}
use Rattle.graph_maps.specs.Subjects.{Subject}
use Rattle.kept_walks.specs.Moves.{NoMoveImproves}
use Rattle.map_faults.specs.declared.fault.MakeFault.{MakeFault}
use Rattle.graph_maps.specs.declared.improvement.Improvement.{Improvement}
use Rattle.graph_maps.specs.declared.improvement.ImprovedMap.{ImprovedMap}
use Rattle.graph_maps.specs.Problems.{Drawn}
use Rattle.graph_maps.specs.Moving.{after_moves, improvement_of}
use Rattle.graph_maps.specs.Making.{MapBytes, SolvedMap, bytes_of, if_solved, map_of, solved_on}
use Rattle.graph_maps.specs.Promises.{IsMadeOn}

-- the bytes of a map and of its certificate, and how its drawing was improved
pub record ImprovedBytes : Type 0 where
  pub map : MapBytes
  pub improvement : Improvement

-- a drawing with its line orders after at most so many moves more: the orders stay, and so does their proof
abbrev pub improved_map : Subject → ℕ → SolvedMap → ImprovedBytes
improved_map subject moves solved = record {
  map = map_of subject (after_moves moves solved.drawn) solved.parts;
  improvement = improvement_of moves solved.drawn.graph solved.drawn.walks;
}

-- The map of a line graph, its drawing after at most so many moves more; or the cause why there is no map.
abbrev pub improved_on : Subject → Choices → MethodChoices → ℕ → GraphParts → Result ImprovedBytes MakeFault
improved_on subject choices method moves graph = if_solved (improved_map subject moves)
    (solved_on subject.importance choices method graph)

-- the bytes of what was improved
abbrev pub improved_bytes : ImprovedMap → ImprovedBytes
improved_bytes improved = record { map = bytes_of improved.map; improvement = improved.improvement }

-- all moves were made, or none makes the drawing lighter
abbrev pub IsAtTheEnd : ℕ → Drawn → ℕ → Type 0
IsAtTheEnd moves drawn made = (made ≡ moves) ⊎ NoMoveImproves drawn.graph drawn.walks (after_moves moves drawn).walks

-- What moves promise of a map: it is one that is made, so it shows exactly the line graph, with what its certificate
-- proves of the line orders, and the check says yes to it and its certificate. Its drawing is no heavier than before,
-- and all moves were made, or none makes it lighter.
pub record IsImprovedOn (subject : Subject) (choices : Choices) (method : MethodChoices) (graph : GraphParts)
    (moves : ℕ) (improved : ImprovedBytes) : Type 0 where
  pub made : IsMadeOn subject choices method.claim graph improved.map
  pub no_heavier : improved.improvement.after ≤ improved.improvement.before
  pub solved : SolvedMap
  pub of_graph : solved_on subject.importance choices method graph ≡ Ok solved
  pub to_the_end : IsAtTheEnd moves solved.drawn improved.improvement.made
