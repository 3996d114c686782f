-- A sweep over ports, clockwise from the first one.
use Rattle.std.specs.Prelude.{ℕ, nat_lt, Bool, true, false, List, [], ◌∷◌, if◌then◌else◌, Option, Some, None}
use Rattle.octi_grid.specs.declared.dir.Dir.{Dir}
use Rattle.octi_grid.specs.declared.ports.Sweep.{Sweep}
use Rattle.octi_grid.specs.Costs.{clockwise_from}

-- a sweep that has come so far goes on over a port, which has to be further
abbrev pub sweep_on : ℕ → Dir → Dir → Option Sweep
sweep_on low first port =
    if nat_lt low (clockwise_from first port) then Some (record { first = Some first; furthest = clockwise_from first port }) else None

-- a sweep that has come so far goes on over a port, which is the first where there is none yet
abbrev pub sweep_from : Option Dir → ℕ → Dir → Option Sweep
sweep_from None low port = Some (record { first = Some port; furthest = 0 })
sweep_from (Some first) low port = sweep_on low first port

abbrev pub sweep_over : Sweep → Dir → Option Sweep
sweep_over s port = sweep_from s.first s.furthest port

-- a sweep goes on over a port, where there is one
abbrev pub sweep_past : Sweep → Option Dir → Option Sweep
sweep_past s None = Some s
sweep_past s (Some port) = sweep_over s port

-- a sweep that goes on passes the test
abbrev pub goes_on : (Sweep → Bool) → Option Sweep → Bool
goes_on test None = false
goes_on test (Some s) = test s

-- a sweep comes over all these ports
abbrev pub sweeps : List Dir → Sweep → Bool
sweeps [] s = true
sweeps (d ∷ ds) s = goes_on (sweeps ds) (sweep_over s d)
