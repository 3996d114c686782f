-- What the definitions give, at values worked by hand.
use Rattle.std.proofs.Common.{◌≡◌, ℕ, ◌+◌, ◌*◌, [], ◌∷◌, refl}
use Rattle.std.specs.Prelude.{codes}
use Rattle.std.specs.Fmt.{digits}
use Rattle.trial_feed.specs.declared.lattice.Place.{Place}
use Rattle.trial_feed.specs.Draws.{next_state, drawn}
use Rattle.trial_feed.specs.Lattice.{side, line_count, microdegrees}
use Rattle.trial_feed.specs.Lines.{lines}
use Rattle.trial_feed.specs.Rows.{six_digits}
use Rattle.trial_feed.specs.Summary.{trial_line}

abbrev at : ℕ → ℕ → Place
at east north = record { east = east; north = north }

lines_of_the_first : lines 0
    ≡ (at 3 0 ∷ at 4 0 ∷ []) ∷ (at 1 0 ∷ at 2 0 ∷ at 2 1 ∷ at 2 2 ∷ at 3 2 ∷ at 3 3 ∷ at 4 3 ∷ []) ∷ []
lines_of_the_first = refl

stations_of_152 : (side 152 + 1) * (side 152 + 1) ≡ 441
stations_of_152 = refl

lines_of_152 : line_count 152 ≡ 10
lines_of_152 = refl

-- the state runs over 64 bits, and a draw gives its upper 31
draw_of_one : next_state 1 ≡ 7806831264735756412
draw_of_one = refl

upper_bits : drawn 7806831264735756412 ≡ 908834774
upper_bits = refl

-- 4491.56 and 17966.2 microdegrees
one_step : microdegrees 1 ≡ 4492
one_step = refl

four_steps : microdegrees 4 ≡ 17967
four_steps = refl

no_step : microdegrees 0 ≡ 0
no_step = refl

digits_of_four_steps : six_digits 17967 ≡ codes "017967"
digits_of_four_steps = refl

told_of_a_map : trial_line 0 (record { nodes = 9; segments = 7; lines = 2; cost = 0; branches = 0 })
    ≡ codes "trial 0: nodes 9 segments 7 lines 2 cost 0 branches 0\n"
unfolding digits
told_of_a_map = refl
