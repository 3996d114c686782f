-- Where walks from the start can come to, and when they are shut in.
use Rattle.std.specs.Prelude.{◌≡◌, ℕ, ◌<◌, ◌||◌, ◌&&◌, ◌++◌, Bool, true, List, length, Some, slice_index_or}
use Rattle.octi_grid.specs.declared.dir.Dir.{Dir}
use Rattle.octi_grid.specs.declared.point.GridPoint.{GridPoint}
use Rattle.octi_grid.specs.Ways.{step_from}
use Rattle.octi_grid.specs.Legal.{is_among}
use Rattle.grid_board.specs.Boards.{is_inside}
use Rattle.state_search.specs.Goals.{PathTo}
use Rattle.walk_search.specs.Routes.{allows}
use Rattle.walk_search.specs.Spots.{spots_of}
use Rattle.walk_search.specs.Moves.{Question, direction, is_open, is_passable, space_of, starts_of}

-- a walk may leave a start at a point by a port
abbrev pub leaves_start : Question → GridPoint → Dir → Bool
leaves_start q p d = is_among (starts_of q) p && allows q.from.ports (Some d)

-- however a walk came to a point, a step may lead on from there
abbrev pub leads_on : Question → GridPoint → Dir → Bool
leads_on q p d = (leaves_start q p d || is_passable q.board p) && is_open q.board p d

-- a point of a list
abbrev pub point_at : Question → List GridPoint → ℕ → GridPoint
point_at q points i = slice_index_or points i q.from.at

-- all points of a list lie on the board
abbrev pub AreInside : Question → List GridPoint → Type 0
AreInside q points = (i : ℕ) → i < length points → is_inside q.board (point_at q points i) ≡ true

-- where the first so many directions may lead on from a point is among the points
abbrev pub HasSteps : Question → List GridPoint → GridPoint → ℕ → Type 0
HasSteps q points p count = (n : ℕ) → n < count → leads_on q p (direction n) ≡ true → is_among points (step_from p (direction n)) ≡ true

-- a list goes on after another one
pub record IsLonger (old new : List GridPoint) : Type 0 where
  pub more : List GridPoint
  pub is : new ≡ old ++ more

-- points that walks from the start can come to, where the steps from the first so many of them were followed
pub record AreReached (q : Question) (points : List GridPoint) (followed : ℕ) : Type 0 where
  pub inside : AreInside q points
  pub starts : (p : GridPoint) → is_among (starts_of q) p ≡ true → is_among points p ≡ true
  pub steps : (i : ℕ) → i < followed → HasSteps q points (point_at q points i) 8

-- no walk leads from the start to the end
abbrev pub IsShutIn : Question → Type 0
IsShutIn q = (labels : List ℕ) (k : ℕ) → PathTo (space_of q) (spots_of q.board.bounds) labels k → ⊥
