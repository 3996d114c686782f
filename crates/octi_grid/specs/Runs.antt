-- Steps as runs.
use Rattle.std.specs.Prelude.{◌+◌, ◌≤◌, ◌==◌, ◌&&◌, nat_lt, Bool, true, false, not, List, [], ◌∷◌, ◌++◌, replicate}
use Rattle.octi_grid.specs.declared.dir.Dir.{Dir}
use Rattle.octi_grid.specs.declared.walk.Run.{Run}
use Rattle.octi_grid.specs.Ways.{number_of}

-- the steps of runs
abbrev pub steps_of : List Run → List Dir
steps_of [] = []
steps_of (r ∷ rs) = replicate r.count r.dir ++ steps_of rs

-- the next run goes another way
abbrev pub turns_next : Dir → List Run → Bool
turns_next d [] = true
turns_next d (r ∷ rs) = not (number_of d == number_of r.dir)

-- no run is without steps, and neighbouring runs go different ways
abbrev pub are_runs : List Run → Bool
are_runs [] = true
are_runs (r ∷ rs) = nat_lt 0 r.count && turns_next r.dir rs && are_runs rs

-- the run has at most as many steps as the grid is wide
abbrev pub IsShort : Run → Type 0
IsShort r = r.count ≤ 20000

-- the last run goes this way
abbrev pub goes_on : List Run → Dir → Bool
goes_on [] d = false
goes_on (r ∷ []) d = number_of r.dir == number_of d
goes_on (r ∷ s ∷ rs) d = goes_on (s ∷ rs) d

-- the same runs, the last with a step more
abbrev pub prolonged : List Run → List Run
prolonged [] = []
prolonged (r ∷ []) = record { dir = r.dir; count = r.count + 1 } ∷ []
prolonged (r ∷ s ∷ rs) = r ∷ prolonged (s ∷ rs)
