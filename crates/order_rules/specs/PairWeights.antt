-- What the terms of two lines on a segment weigh.
use Rattle.std.specs.Prelude.{ℕ, ◌==◌, Bool, true, false, ◌&&◌, ◌||◌, List, [], ◌∷◌, sum_by, max, if◌then◌else◌}
use Rattle.std.specs.List.{list_all}
use Rattle.map_base.specs.declared.ids.SegId.{SegId}
use Rattle.map_base.specs.declared.ids.LineId.{LineId}
use Rattle.order_model.specs.declared.term.Term.{Term}
use Rattle.order_model.specs.declared.term.Term.TheVariants.{Side, Link, Apart}
use Rattle.order_model.specs.Costs.{are_these, seg_of, other_of, weight_of}

-- the term is a Side, a Link, or an Apart
abbrev pub is_side : Term → Bool
is_side (Side seg first second w) = true
is_side (Link seg other flip a b w) = false
is_side (Apart seg other a b w) = false

abbrev pub is_link : Term → Bool
is_link (Side seg first second w) = false
is_link (Link seg other flip a b w) = true
is_link (Apart seg other a b w) = false

abbrev pub is_apart : Term → Bool
is_apart (Side seg first second w) = false
is_apart (Link seg other flip a b w) = false
is_apart (Apart seg other a b w) = true

-- the term stands on the segment
abbrev pub is_on : SegId → Term → Bool
is_on s t = (seg_of t).0 == s.0 || (other_of t).0 == s.0

-- the term is one of these two lines
abbrev pub is_of_lines : LineId → LineId → Term → Bool
is_of_lines a b (Side seg first second w) = are_these first second a b
is_of_lines a b (Link seg other flip x y w) = are_these x y a b
is_of_lines a b (Apart seg other x y w) = are_these x y a b

-- the sum of the weights of the terms that pass a test
abbrev pub weight_where : (Term → Bool) → List Term → ℕ
weight_where test terms = sum_by (λ t. if test t then weight_of t else 0) terms

-- each two of these lines pass a test
abbrev pub all_pairs : (LineId → LineId → Bool) → List LineId → Bool
all_pairs test [] = true
all_pairs test (a ∷ lines) = list_all (test a) lines && all_pairs test lines

-- the greatest number that one of these lines has, 0 where there is none
abbrev pub most_by : (LineId → ℕ) → List LineId → ℕ
most_by f [] = 0
most_by f (a ∷ lines) = max (f a) (most_by f lines)

-- the greatest number that two of these lines have, 0 where there are no two
abbrev pub most_over_pairs : (LineId → LineId → ℕ) → List LineId → ℕ
most_over_pairs f [] = 0
most_over_pairs f (a ∷ lines) = max (most_by (f a) lines) (most_over_pairs f lines)
