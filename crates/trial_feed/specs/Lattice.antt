-- The lattice of a trial: a square of stations.
use Rattle.std.specs.Prelude.{ℕ, ◌+◌, ◌*◌, ◌/◌, ◌%◌, Bool, ◌&&◌, ◌==◌, nat_lt, if◌then◌else◌}
use Rattle.trial_feed.specs.declared.lattice.Place.{Place}

-- how many steps the lattice is wide and high
abbrev pub side : ℕ → ℕ
side trial = 4 + trial % 17

-- how many lines run over it
abbrev pub line_count : ℕ → ℕ
line_count trial = 2 + trial / 17 % 9

-- how many microdegrees so many steps are: half a kilometre each, rounded up
abbrev pub microdegrees : ℕ → ℕ
microdegrees steps = (50000000 * steps + 11131) / 11132

-- a line goes on from a place that is on neither far side
abbrev pub is_inside : ℕ → Place → Bool
is_inside side place = nat_lt place.east side && nat_lt place.north side

-- the next place after a draw: one step east where it is even, else one step north
abbrev pub step_after : ℕ → Place → Place
step_after draw place =
    if draw % 2 == 0 then record { east = place.east + 1; north = place.north } else record { east = place.east; north = place.north + 1 }
