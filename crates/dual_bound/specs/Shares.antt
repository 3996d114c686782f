-- What an order of one segment adds to the cost of a part under prices on Links and Aparts, in thousandths.
use Rattle.std.specs.Prelude.{ℕ, ◌*◌, ◌==◌, Bool, not, List, if◌then◌else◌}
use Rattle.std.specs.Prelude.{ℤ, pos, ◌+ℤ◌, ◌-ℤ◌}
use Rattle.whole_sums.specs.Sums.{int_sum}
use Rattle.map_base.specs.declared.ids.SegId.{SegId}
use Rattle.map_base.specs.declared.ids.LineId.{LineId}
use Rattle.order_model.specs.declared.term.Term.{Term}
use Rattle.order_model.specs.declared.term.Term.TheVariants.{Side, Link, Apart}
use Rattle.order_model.specs.Costs.{comes_before, are_neighbours, same_answer}

-- how many thousandths a unit of cost has
abbrev pub thousand : ℕ
thousand = 1000

-- a number where the answer is yes, else 0
abbrev pub where_so : Bool → ℤ → ℤ
where_so so y = if so then y else pos 0

-- the x of a Link on the order of its first segment, and its z on that of its other: whether the greater of its lines
-- stands first, with a flip told the other way round at the other segment. The Link costs where the two differ
abbrev pub x_of : List LineId → LineId → LineId → Bool
x_of order a b = comes_before order b a

abbrev pub z_of : List LineId → Bool → LineId → LineId → Bool
z_of order flip a b = if flip then not (comes_before order b a) else comes_before order b a

-- What a term adds on a segment with this order: a Side 1000 times its weight where it costs; a Link or an Apart with the
-- price p, which stands for p * (z - x), what falls to this segment: p * z where it is the other, -p * x where it is the
-- first. For an Apart x and z say whether its lines are neighbours
abbrev pub term_share : ℤ → SegId → List LineId → Term → ℤ
term_share p s order (Side seg first second w) =
    if seg.0 == s.0 then where_so (comes_before order second first) (pos (thousand * w)) else pos 0
term_share p s order (Link seg other flip a b w) =
    (if other.0 == s.0 then where_so (z_of order flip a b) p else pos 0)
    -ℤ (if seg.0 == s.0 then where_so (x_of order a b) p else pos 0)
term_share p s order (Apart seg other a b w) =
    (if other.0 == s.0 then where_so (are_neighbours order a b) p else pos 0)
    -ℤ (if seg.0 == s.0 then where_so (are_neighbours order a b) p else pos 0)

-- the share of an order of a segment: the sum over the terms of a part, each under the price of its number
abbrev pub share_of : List (ℕ × Term) → (ℕ → ℤ) → SegId → List LineId → ℤ
share_of terms price s order = int_sum (λ (t : ℕ × Term). term_share (price t.0) s order t.1) terms
