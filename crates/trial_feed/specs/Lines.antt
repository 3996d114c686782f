-- The lines of a trial, drawn one after another.
use Rattle.std.specs.Prelude.{ℕ, zero, suc, ◌*◌, ◌%◌, List, [], ◌∷◌, map, Vec, if◌then◌else◌}
use Rattle.std.specs.declared.alloc.Global.{Global}
use Rattle.trial_feed.specs.declared.lattice.Place.{Place}
use Rattle.trial_feed.specs.Draws.{next_state, drawn}
use Rattle.trial_feed.specs.Lattice.{side, line_count, is_inside, step_after}

-- a stop in front of what is drawn behind it
abbrev pub in_front : Place → List Place × ℕ → List Place × ℕ
in_front place rest = (place ∷ rest.0, rest.1)

-- the stops behind a place, and the state of the draws behind them: while the place is inside, one draw gives the
-- next place. A line has at most so many steps.
abbrev pub walk : ℕ → ℕ → Place → ℕ → List Place × ℕ
walk zero side place state = ([], state)
walk (suc steps) side place state =
    if is_inside side place
    then in_front (step_after (drawn (next_state state)) place) (walk steps side (step_after (drawn (next_state state)) place) (next_state state))
    else ([], state)

-- the place at the south side that a draw gives
abbrev pub start : ℕ → ℕ → Place
start side draw = record { east = draw % side; north = 0 }

-- the stops of a line that is drawn from a state, and the state of the draws behind it
abbrev pub line : ℕ → ℕ → List Place × ℕ
line side state =
    in_front (start side (drawn (next_state state))) (walk (2 * side) side (start side (drawn (next_state state))) (next_state state))

-- the stops of so many lines that are drawn one after another from a state
abbrev pub lines_drawn : ℕ → ℕ → ℕ → List (List Place)
lines_drawn zero side state = []
lines_drawn (suc count) side state = (line side state).0 ∷ lines_drawn count side (line side state).1

-- the lines of a trial; its number is the first state
abbrev pub lines : ℕ → List (List Place)
lines trial = lines_drawn (line_count trial) (side trial) trial

-- the stops of lines, wherever they lie
abbrev pub stops_of : List (Vec Place Global) → List (List Place)
stops_of drawn = map (λ line. line.items) drawn
