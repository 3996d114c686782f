-- The orders that answer prices, the value that they have, and how prices and their directions go on from round to round.
use Rattle.std.specs.Prelude.{ℕ, ◌*◌, ◌≤◌, ◌==◌, Bool, ◌&&◌, ◌||◌, List, [], ◌∷◌, map, sum_by, if◌then◌else◌, unsigned_abs, unwrap_or}
use Rattle.std.specs.Prelude.{ℤ, pos, neg_ℤ, ◌+ℤ◌, ◌-ℤ◌, ◌*ℤ◌, int_div, int_lt, int_le}
use Rattle.std.specs.Int.{int_min, int_max}
use Rattle.std.specs.List.{list_all}
use Rattle.whole_sums.specs.Sums.{int_sum}
use Rattle.map_base.specs.declared.ids.SegId.{SegId}
use Rattle.map_base.specs.declared.ids.LineId.{LineId}
use Rattle.order_model.specs.declared.term.Term.{Term}
use Rattle.order_model.specs.declared.term.Term.TheVariants.{Side, Link, Apart}
use Rattle.order_model.specs.declared.problem.ProblemParts.{ProblemParts}
use Rattle.order_model.specs.Problems.{lines_on}
use Rattle.order_model.specs.Costs.{are_neighbours}
use Rattle.least_orders.specs.Arrangements.{kept_orders}
use Rattle.least_orders.specs.LeastOrders.{first_least}
use Rattle.dual_bound.specs.declared.settled.SettledPair.{SettledPair}
use Rattle.dual_bound.specs.Settled.{settled_on}
use Rattle.dual_bound.specs.Shares.{thousand, where_so, x_of, z_of, share_of}
use Rattle.dual_ascent.specs.OwnNumbers.{all_segments, all_terms, number_of}

-- the share of an order of a segment under prices
abbrev pub share_under : ProblemParts → List ℤ → SegId → List LineId → ℤ
share_under p prices s order = share_of (all_terms p) (number_of prices) s order

-- of the orders of a segment that keep the settled pairs the one of least share, among these the least as a list. Where no
-- order keeps them, which never comes in a search, the lines in their order
abbrev pub answer_on : ProblemParts → List SettledPair → List ℤ → SegId → List LineId
answer_on p settled prices s =
    unwrap_or (first_least (share_under p prices s) (kept_orders (settled_on settled s) (lines_on p.segs s))) (lines_on p.segs s)

-- the orders that answer prices: those of least share
abbrev pub answers : ProblemParts → List SettledPair → List ℤ → List (List LineId)
answers p settled prices = map (answer_on p settled prices) (all_segments p)

-- the value of the prices: the sum of the shares of these orders
abbrev pub value_with : ProblemParts → List ℤ → List (List LineId) → ℤ
value_with p prices orders = int_sum (λ (s : SegId). share_under p prices s (lines_on orders s)) (all_segments p)

-- z - x of a Link or an Apart under orders: what a price of 1 on it adds to the value, so the subgradient
abbrev pub subgradient : List (List LineId) → Term → ℤ
subgradient orders (Side seg first second w) = pos 0
subgradient orders (Link seg other flip a b w) =
    where_so (z_of (lines_on orders other) flip a b) (pos 1) -ℤ where_so (x_of (lines_on orders seg) a b) (pos 1)
subgradient orders (Apart seg other a b w) =
    where_so (are_neighbours (lines_on orders other) a b) (pos 1) -ℤ where_so (are_neighbours (lines_on orders seg) a b) (pos 1)

-- the greatest price of a term, either way: 1000 times its weight, none on a Side
abbrev pub most_price : Term → ℕ
most_price (Side seg first second w) = 0
most_price (Link seg other flip a b w) = thousand * w
most_price (Apart seg other a b w) = thousand * w

-- one price a term, none beyond its weight either way
abbrev pub AreWithin : List Term → List ℤ → Type 0
AreWithin [] [] = Unit {0}
AreWithin (t ∷ terms) (y ∷ prices) = (unsigned_abs y ≤ most_price t) × AreWithin terms prices
AreWithin [] (y ∷ prices) = ⊥
AreWithin (t ∷ terms) [] = ⊥

-- the price is at the end of its range to which the direction points
abbrev pub is_blocked : ℕ → ℤ → ℤ → Bool
is_blocked most price direction =
    (int_le (pos most) price && int_lt (pos 0) direction) || (int_le price (neg_ℤ (pos most)) && int_lt direction (pos 0))

-- the direction in which the price of a term goes: seven eighths of the last one and 64 times the subgradient, and none where
-- the price is at its end
abbrev pub next_direction : ℕ → ℤ → ℤ → ℤ → ℤ
next_direction most price last slope =
    let direction : ℤ = int_div (pos 7 *ℤ last) (pos 8) +ℤ (pos 64 *ℤ slope) in
    if is_blocked most price direction then pos 0 else direction

-- the same for all terms
abbrev pub next_directions : ProblemParts → List (List LineId) → List ℤ → List ℤ → List ℤ
next_directions p orders prices last =
    map (λ (q : ℕ × Term). next_direction (most_price q.1) (number_of prices q.0) (number_of last q.0) (subgradient orders q.1)) (all_terms p)

-- no price goes anywhere
abbrev pub are_still : List ℤ → Bool
are_still directions = list_all (λ (y : ℤ). unsigned_abs y == 0) directions

-- the sum of their squares
abbrev pub square_sum : List ℤ → ℕ
square_sum directions = sum_by (λ (y : ℤ). unsigned_abs y * unsigned_abs y) directions

-- cut to a range, either way
abbrev pub cut_to : ℕ → ℤ → ℤ
cut_to most y = int_max (neg_ℤ (pos most)) (int_min (pos most) y)

-- what the value lacks to the one that shows the target, and at least 1000
abbrev pub gap_of : ℕ → ℤ → ℤ
gap_of target value = int_max ((pos thousand *ℤ (pos target -ℤ pos 1) +ℤ pos 1) -ℤ value) (pos 1000)

-- the price of a term after a step of so many thousandths of the gap in its direction, by the squares of all directions
abbrev pub next_price : ℕ → ℤ → ℕ → ℕ → ℤ → ℤ → ℤ
next_price step gap squares most price direction =
    cut_to most (price +ℤ int_div (((pos step *ℤ gap) *ℤ pos 64) *ℤ direction) (pos (1000 * squares)))

-- the same for all terms
abbrev pub next_prices : ProblemParts → ℕ → ℤ → List ℤ → List ℤ → List ℤ
next_prices p step gap prices directions =
    map (λ (q : ℕ × Term). next_price step gap (square_sum directions) (most_price q.1) (number_of prices q.0) (number_of directions q.0)) (all_terms p)
