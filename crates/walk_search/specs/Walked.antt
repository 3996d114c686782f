-- The walk along known costs.
use Rattle.std.specs.Prelude.{◌≡◌, ◌⊎◌, ℕ, ◌+◌, ◌<◌, ◌≤◌, true, List, [], ◌∷◌, map, Option, Some, None}
use Rattle.octi_grid.specs.declared.point.GridPoint.{GridPoint}
use Rattle.octi_grid.specs.Ways.{step_from}
use Rattle.octi_grid.specs.Walks.{PlainWalk}
use Rattle.state_search.specs.Goals.{PathTo, IsLeastPathTo}
use Rattle.state_search.specs.Searching.{known_at}
use Rattle.grid_board.specs.Boards.{is_inside}
use Rattle.walk_search.specs.Spots.{spots_of}
use Rattle.walk_search.specs.Moves.{Question, IsMove, direction, start_at, space_of}

-- two costs are known, and the one is greater than the other by this much
abbrev pub DifferBy : Option ℕ → Option ℕ → ℕ → Type 0
DifferBy greater lesser by = (r : ℕ) × (lesser ≡ Some r) × (greater ≡ Some (by + r))

-- a move by a label keeps to the known costs
pub record KeepsCost (q : Question) (table : List (Option ℕ)) (at label to : ℕ) : Type 0 where
  pub cost : ℕ
  pub goes : IsMove q at label to cost
  pub differ : DifferBy (known_at table at) (known_at table to) cost

-- the walk ends here: what is known is what it costs to end
abbrev pub EndsAt : Question → List (Option ℕ) → ℕ → Type 0
EndsAt q table at = (k : ℕ) × (known_at table at ≡ Some k) × ((space_of q).goal at ≡ Some k)

-- the walk does not end here, and this is the least label by which a move keeps to the known costs
pub record IsLeastMove (q : Question) (table : List (Option ℕ)) (at label to : ℕ) : Type 0 where
  pub goes_on : EndsAt q table at → ⊥
  pub keeps : KeepsCost q table at label to
  pub least : (other there : ℕ) → KeepsCost q table at other there → label ≤ other

-- the walk ends at a spot, or no move from there keeps to the known costs
abbrev pub StopsAt : Question → List (Option ℕ) → ℕ → Type 0
StopsAt q table at = EndsAt q table at ⊎ ((label to : ℕ) → KeepsCost q table at label to → ⊥)

-- the steps of labels from a point stay on the board
abbrev pub AreSteps : Question → GridPoint → List ℕ → Type 0
AreSteps q p [] = Unit {0}
AreSteps q p (l ∷ ls) = (l < 8) × (is_inside q.board (step_from p (direction l)) ≡ true) × AreSteps q (step_from p (direction l)) ls

-- the labels lead from before the choice of a seat to an end
abbrev pub IsPath : Question → List ℕ → Type 0
IsPath q labels = (k : ℕ) × PathTo (space_of q) (spots_of q.board.bounds) labels k

-- the labels are those of the least path, if there is a path; else there are none
abbrev pub AreLabelsOf : Question → List ℕ → Option ℕ → Type 0
AreLabelsOf q labels None = labels ≡ []
AreLabelsOf q labels (Some known) = (k : ℕ) × IsLeastPathTo (space_of q) (spots_of q.board.bounds) labels k

abbrev pub AreLabels : Question → List (Option ℕ) → List ℕ → Type 0
AreLabels q table labels = AreLabelsOf q labels (known_at table (spots_of q.board.bounds))

-- the walk of labels: the place of its start in the list of starts, and the numbers of its directions
abbrev pub walk_of_labels : Question → List ℕ → PlainWalk
walk_of_labels q [] = record { start = q.from.at; steps = [] }
walk_of_labels q (seat ∷ labels) = record { start = start_at q seat; steps = map direction labels }

-- the walk is that of the least path from before the choice of a seat
pub record IsLeastWalk (q : Question) (walk : PlainWalk) : Type 0 where
  pub labels : List ℕ
  pub cost : ℕ
  pub least : IsLeastPathTo (space_of q) (spots_of q.board.bounds) labels cost
  pub is_walk : walk ≡ walk_of_labels q labels

-- the answer to a question is such a walk, or there is no path
abbrev pub IsAnswer : Question → Option PlainWalk → Type 0
IsAnswer q None = (labels : List ℕ) (k : ℕ) → PathTo (space_of q) (spots_of q.board.bounds) labels k → ⊥
IsAnswer q (Some walk) = IsLeastWalk q walk
