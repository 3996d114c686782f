-- What walks take: the points where they put nodes, and their doubled points.
use Rattle.std.specs.Prelude.{ℕ, ◌≡◌, ◌-◌, ◌*◌, ◌<◌, ◌==◌, ◌&&◌, not, Bool, true, List, [], ◌∷◌, ◌++◌, length, replicate, cond, if◌then◌else◌, Option, Some, None, slice_index_or, slice_set}
use Rattle.std.specs.List.{flat_map}
use Rattle.std.specs.declared.hash.FoldHasher.{FoldHasher}
use Rattle.std.specs.declared.hash.BuildHasherDefault.{BuildHasherDefault}
use Rattle.std.specs.HashMap.{get, HashMap}
use Rattle.octi_grid.specs.declared.dir.Dir.{Dir}
use Rattle.octi_grid.specs.declared.point.GridPoint.{GridPoint}
use Rattle.octi_grid.specs.declared.walk.Run.{Run}
use Rattle.octi_grid.specs.declared.taken.Taken.{Taken}
use Rattle.octi_grid.specs.declared.drawing.DrawWhy.{DrawWhy}
use Rattle.octi_grid.specs.declared.drawing.DrawingStop.{DrawingStop}
use Rattle.octi_grid.specs.declared.drawing.DrawingStop.TheVariants as stop
use Rattle.octi_grid.specs.Ways.{are_one, doubled, step_from}
use Rattle.octi_grid.specs.Walks.{doubled_of}
use Rattle.octi_grid.specs.PointSets.{holds, PointFlags}
use Rattle.octi_grid.specs.Legal.{ends_hold, is_among, is_even, meets_hold, puts_of, Leg, Put}

-- the points of a way after its start
abbrev pub trail : GridPoint → List Dir → List GridPoint
trail p [] = []
trail p (d ∷ ds) = step_from p d ∷ trail (step_from p d) ds

-- how many half steps a run has, but for the last one of a way
abbrev pub half_count : Run → List Run → ℕ
half_count r [] = 2 * r.count - 1
half_count r (s ∷ rs) = 2 * r.count

-- the half steps of runs, but for the last one
abbrev pub half_steps : List Run → List Dir
half_steps [] = []
half_steps (r ∷ rs) = replicate (half_count r rs) r.dir ++ half_steps rs

abbrev pub first_half_count : List Run → ℕ
first_half_count [] = 0
first_half_count (r ∷ rs) = half_count r rs

-- none of these points is taken, and none is there twice
abbrev pub are_new : List GridPoint → List GridPoint → Bool
are_new taken [] = true
are_new taken (p ∷ ps) = not (is_among taken p) && are_new (p ∷ taken) ps

-- what is taken with these
abbrev pub taken_with : List GridPoint → List GridPoint → List GridPoint
taken_with taken [] = taken
taken_with taken (p ∷ ps) = taken_with (p ∷ taken) ps

abbrev pub NodeMap : Type 0
NodeMap = HashMap GridPoint ℕ (BuildHasherDefault FoldHasher)

-- the set has these points and no others
pub record Has (set : PointFlags) (points : List GridPoint) : Type 0 where
  pub tells : (p : GridPoint) → holds set p ≡ is_among points p

-- the answer says whether these points were new to a set, and if so it has them now
pub record Takes (old new : PointFlags) (points : List GridPoint) (answer : Bool) : Type 0 where
  pub says : (taken : List GridPoint) → Has old taken → answer ≡ are_new taken points
  pub takes : (taken : List GridPoint) → Has old taken → answer ≡ true → Has new (taken_with taken points)

-- there is nothing, or what is there passes the test
abbrev pub is_or_none : {X : Type 0} → (X → Bool) → Option X → Bool
is_or_none test None = true
is_or_none test (Some x) = test x

-- where a node is put, if it is, and which node is put at a point, if one is
abbrev pub may_put : Option GridPoint → Option ℕ → ℕ → GridPoint → Bool
may_put point node n p = is_even p && is_or_none (are_one p) point && is_or_none (λ m. n == m) node

-- where walks put a node
abbrev pub point_in : List Put → ℕ → Option GridPoint
point_in [] n = None
point_in (q ∷ qs) n = if q.0 == n then Some q.1 else point_in qs n

-- the node that walks put at a point
abbrev pub node_in : List Put → GridPoint → Option ℕ
node_in [] p = None
node_in (q ∷ qs) p = if are_one p q.1 then Some q.0 else node_in qs p

-- tables of so many nodes tell where nodes are put, and the set has the taken points
pub record AreTables (count : ℕ) (puts : List Put) (taken : List GridPoint) (t : Taken) : Type 0 where
  pub each_node : length t.points.items ≡ count
  pub points : (n : ℕ) → n < count → slice_index_or t.points.items n None ≡ point_in puts n
  pub nodes : (p : GridPoint) → get are_one t.nodes p ≡ node_in puts p
  pub doubled : Has t.doubled taken

-- the doubled points of walks
abbrev pub taken_by : List Leg → List GridPoint
taken_by legs = flat_map (λ l. doubled_of l.1) legs

-- the tables are those of walks
abbrev pub IsTaken : ℕ → List Leg → Taken → Type 0
IsTaken count legs t = AreTables count (puts_of legs) (taken_by legs) t

-- what a walk takes at an end: nothing where the node has its point already
abbrev pub claim : Option GridPoint → GridPoint → List GridPoint
claim None p = doubled p ∷ []
claim (Some q) p = []

-- a node is put at a point, where it has none; the answer says whether the doubled point was free then
abbrev pub PutsNode : Option GridPoint → Taken → Taken → ℕ → GridPoint → Bool → Type 0
PutsNode (Some q) old new n p answer = (new ≡ old) × (answer ≡ true)
PutsNode None old new n p answer =
    (new.points.items ≡ slice_set old.points.items n (Some p))
    × ((q : GridPoint) → get are_one new.nodes q ≡ cond (are_one p q) (Some n) (get are_one old.nodes q))
    × Takes old.doubled new.doubled (doubled p ∷ []) answer

abbrev pub Puts : Taken → Taken → ℕ → GridPoint → Bool → Type 0
Puts old new n p answer = PutsNode (slice_index_or old.points.items n None) old new n p answer

-- the check stops at walk k for this reason; want of memory is free
abbrev pub IsStopAt : ℕ → Option DrawWhy → DrawingStop → Type 0
IsStopAt k why (stop.Bad seg because) = (seg.0 ≡ k) × (why ≡ Some because)
IsStopAt k why stop.NoMemory = Unit {0}

-- a walk's leg is taken after legs whose ends fit with it: the answer says whether it meets nothing of theirs
pub record TakesLeg (old new : Taken) (l : Leg) (answer : Bool) : Type 0 where
  pub says : (legs : List Leg) (count : ℕ) → IsTaken count legs old → ends_hold (legs ++ l ∷ []) ≡ true → meets_hold legs ≡ true → answer ≡ meets_hold (legs ++ l ∷ [])
  pub takes : (legs : List Leg) (count : ℕ) → IsTaken count legs old → ends_hold (legs ++ l ∷ []) ≡ true → meets_hold legs ≡ true → answer ≡ true → IsTaken count (legs ++ l ∷ []) new
