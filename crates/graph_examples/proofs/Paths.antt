-- A small graph in which two ways cost the same: 0 to 1 to 3 and 0 to 2 to 3, each at 2, and a dear step from 0 to 3.
use Rattle.std.proofs.Common.{◌≡◌, refl, ℕ, pos, negsuc, inl, inr, List, [], ◌∷◌, arith}
use Rattle.least_path.specs.Orders.{LexLe}
use Rattle.least_path.specs.Paths.{Path}
use Rattle.map_base.specs.declared.point.Point.{Point}
use Rattle.track_net.specs.Nets.{net_of_samples}
use Rattle.net_paths.specs.Choices.{stretch_path_of}

data Edge : ℕ → ℕ → ℕ → ℕ → Type 0 where
  first : Edge 0 1 1 1
  second : Edge 0 2 2 1
  from_first : Edge 1 3 3 1
  from_second : Edge 2 3 3 1
  dear : Edge 0 3 3 3

by_first : Path Edge 0 3 (1 ∷ 3 ∷ []) 2
by_first = (1, 1, 1, first, (3, 1, 0, from_first, (refl, refl), refl), refl)

by_second : Path Edge 0 3 (2 ∷ 3 ∷ []) 2
by_second = (2, 1, 1, second, (3, 1, 0, from_second, (refl, refl), refl), refl)

at_once : Path Edge 0 3 (3 ∷ []) 3
at_once = (3, 3, 0, dear, (refl, refl), refl)

-- the tie goes to the lesser label, and a list stands before each that it begins
lesser_label : LexLe (1 ∷ 3 ∷ []) (2 ∷ 3 ∷ [])
lesser_label = inl (omega arith)

shorter_list : LexLe (1 ∷ []) (1 ∷ 3 ∷ [])
shorter_list = inr (refl, tt)

not_the_longer : LexLe (1 ∷ 3 ∷ []) (1 ∷ []) → ⊥
not_the_longer (inl h) = omega arith
not_the_longer (inr h) = h.1

-- Stretch paths over nets of a few points.

abbrev at : ℕ → ℕ → Point
at x y = record { x = pos x; y = pos y }

-- by the point that parts two stations
parted : stretch_path_of 500 (at 0 0 ∷ at 1000 0 ∷ []) (net_of_samples 500 (at 0 0 ∷ at 1000 0 ∷ at 500 500
    ∷ []) []) 0 1 ≡ 0 ∷ 2 ∷ 1 ∷ []
parted = refl

-- round a square both ways are as long: the corridor decides, and without it the lesser numbers; a sample at exactly four
-- times `near` from a point leaves that point outside
abbrev round_a_square : List Point → List ℕ
round_a_square corridor = stretch_path_of 334 corridor (net_of_samples 334 (at 0 0 ∷ at 1000 1000 ∷ at 1000 0
    ∷ at 0 1000 ∷ []) []) 0 1

tied : round_a_square [] ≡ 0 ∷ 2 ∷ 1 ∷ []
tied = refl

along_the_corridor : round_a_square (record { x = negsuc 335; y = pos 0 } ∷ []) ≡ 0 ∷ 3 ∷ 1 ∷ []
along_the_corridor = refl
