-- The value of prices on the open Links of a prefix.
use Rattle.std.specs.Prelude.{ℕ, ◌==◌, nat_le, Bool, true, false, ◌&&◌, ◌||◌, not, List, [], ◌∷◌, if◌then◌else◌, Option, Some, None}
use Rattle.std.specs.Prelude.{ℤ, pos, ◌+ℤ◌, ◌-ℤ◌, unsigned_abs}
use Rattle.std.specs.Int.{int_min}
use Rattle.std.specs.List.{list_all, list_any}
use Rattle.whole_sums.specs.Sums.{int_sum}
use Rattle.map_base.specs.declared.ids.SegId.{SegId}
use Rattle.map_base.specs.declared.ids.LineId.{LineId}
use Rattle.order_model.specs.declared.term.Term.{Term}
use Rattle.order_model.specs.declared.term.Term.TheVariants.{Side, Link, Apart}
use Rattle.order_model.specs.Costs.{same_answer}
use Rattle.order_model.specs.Looks.{is_decided}
use Rattle.order_values.specs.PriceLists.{price_at}
use Rattle.order_bound.specs.Decided.{decided_sum}
use Rattle.order_bound.specs.Pairs.{Pair, pairs_of, open_segments, OpenLink, open_links}
use Rattle.order_bound.specs.Bounds.{slot_cost}

-- a Link between segments decides by x, 0 or 1, on its first segment, and by z on its other: x is 0 where the lesser
-- line stands first, and z is that of the other segment, turned by the flip. It costs where x and z differ
abbrev pub is_one : Bool → Bool
is_one lesser_first = not lesser_first

abbrev pub is_one_there : OpenLink → Bool → Bool
is_one_there l lesser_first = same_answer l.flip lesser_first

-- a number where the answer is 1, else 0
abbrev pub where_one : Bool → ℤ → ℤ
where_one one y = if one then y else pos 0

-- what a price y on a Link, which stands for y * (z - x), adds on a segment
abbrev pub share : ℤ → OpenLink → SegId → Bool → ℤ
share y l s lesser_first =
    (if l.seg.0 == s.0 then where_one (is_one lesser_first) (pos 0 -ℤ y) else pos 0)
    +ℤ (if l.other.0 == s.0 then where_one (is_one_there l lesser_first) y else pos 0)

-- what a pair costs on a segment with its shares of prices
abbrev pub priced_cost : (SegId → Bool → ℕ) → List OpenLink → (OpenLink → ℤ) → SegId → Bool → ℤ
priced_cost cost links price s lesser_first = pos (cost s lesser_first) +ℤ int_sum (λ (l : OpenLink). share (price l) l s lesser_first) links

-- the lesser of both answers' costs
abbrev pub least_answer : (Bool → ℤ) → ℤ
least_answer cost = int_min (cost true) (cost false)

-- the sum over segments of the least that each costs with its shares of prices
abbrev pub priced_sum : List SegId → (SegId → Bool → ℕ) → List OpenLink → (OpenLink → ℤ) → ℤ
priced_sum slots cost links price = int_sum (λ s. least_answer (priced_cost cost links price s)) slots

-- the least costs of a pair on the segments where it is open
abbrev pub pair_value : List (List LineId) → List (List LineId) → List SegId → List (ℕ × Term) → List (ℕ × ℤ) → Pair → ℤ
pair_value segs placed part terms prices p =
    priced_sum (open_segments segs placed part p) (slot_cost placed terms p) (open_links placed p terms) (λ l. price_at prices l.number)

-- the value of prices
abbrev pub value_of : List (List LineId) → List SegId → List (ℕ × Term) → List (List LineId) → List (ℕ × ℤ) → ℤ
value_of segs part terms placed prices =
    pos (decided_sum segs placed terms) +ℤ int_sum (pair_value segs placed part terms prices) (pairs_of terms)

-- a price is allowed on the Link of its number, up to the Link's weight either way, where the Link is decided on neither
-- of its segments
abbrev pub allows : List (List LineId) → (ℕ × ℤ) → ℕ → Term → Bool
allows placed q k (Side seg first second w) = false
allows placed q k (Link seg other flip a b w) =
    (k == q.0 && not (is_decided placed seg a b || is_decided placed other a b)) && nat_le (unsigned_abs q.1) w
allows placed q k (Apart seg other a b w) = false

-- each price is allowed on one of these terms
abbrev pub are_allowed : List (List LineId) → List (ℕ × Term) → List (ℕ × ℤ) → Bool
are_allowed placed terms prices = list_all (λ (q : ℕ × ℤ). list_any (λ (t : ℕ × Term). allows placed q t.0 t.1) terms) prices

-- the value of prices, where all are allowed
abbrev pub value : List (List LineId) → List SegId → List (ℕ × Term) → List (List LineId) → List (ℕ × ℤ) → Option ℤ
value segs part terms placed prices = if are_allowed placed terms prices then Some (value_of segs part terms placed prices) else None
