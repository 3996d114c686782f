-- The value of prices: what orders that keep settled pairs cost at least, in thousandths.
use Rattle.std.specs.Prelude.{ℕ, ◌*◌, ◌==◌, nat_le, Bool, false, ◌&&◌, List, [], ◌∷◌, Option, Some, None}
use Rattle.std.specs.Prelude.{ℤ, pos, ◌+ℤ◌, unsigned_abs}
use Rattle.std.specs.List.{list_all, list_any}
use Rattle.map_base.specs.declared.ids.SegId.{SegId}
use Rattle.map_base.specs.declared.ids.LineId.{LineId}
use Rattle.order_model.specs.declared.term.Term.{Term}
use Rattle.order_model.specs.declared.term.Term.TheVariants.{Side, Link, Apart}
use Rattle.order_model.specs.Problems.{lines_on}
use Rattle.least_orders.specs.Arrangements.{kept_orders}
use Rattle.least_orders.specs.LeastOrders.{least_value}
use Rattle.dual_bound.specs.declared.settled.SettledPair.{SettledPair}
use Rattle.dual_bound.specs.Settled.{settled_on}
use Rattle.dual_bound.specs.Shares.{thousand, share_of}

-- the least share of an order of the segment that keeps the pairs settled there, none where no order keeps them
abbrev pub least_share : List (List LineId) → List (ℕ × Term) → (ℕ → ℤ) → List SettledPair → SegId → Option ℤ
least_share segs terms price settled s = least_value (share_of terms price s) (kept_orders (settled_on settled s) (lines_on segs s))

-- the sum of two, where both are there
abbrev pub plus : Option ℤ → Option ℤ → Option ℤ
plus None w = None
plus (Some v) None = None
plus (Some v) (Some w) = Some (v +ℤ w)

-- the sum of the least shares over some segments; none, which is above every number, where one has none
abbrev pub value_of : List (List LineId) → List (ℕ × Term) → (ℕ → ℤ) → List SettledPair → List SegId → Option ℤ
value_of segs terms price settled [] = Some (pos 0)
value_of segs terms price settled (s ∷ part) = plus (least_share segs terms price settled s) (value_of segs terms price settled part)

-- a price is allowed on a term of its number that is a Link or an Apart, up to 1000 times its weight either way
abbrev pub allows : ℕ × ℤ → ℕ × Term → Bool
allows q (k, Side seg first second w) = false
allows q (k, Link seg other flip a b w) = k == q.0 && nat_le (unsigned_abs q.1) (thousand * w)
allows q (k, Apart seg other a b w) = k == q.0 && nat_le (unsigned_abs q.1) (thousand * w)

-- each price is allowed on one of these terms
abbrev pub are_allowed : List (ℕ × Term) → List (ℕ × ℤ) → Bool
are_allowed terms prices = list_all (λ (q : ℕ × ℤ). list_any (allows q) terms) prices
