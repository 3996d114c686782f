-- The canonical prices of a prefix.
use Rattle.std.specs.Prelude.{ℕ, zero, suc, ◌+◌, ◌==◌, Bool, true, false, ◌||◌, not, List, [], ◌∷◌, ◌++◌, length, filter, map, if◌then◌else◌}
use Rattle.std.specs.Prelude.{ℤ, pos, negsuc, ◌+ℤ◌, ◌-ℤ◌}
use Rattle.std.specs.Int.{int_min, int_max}
use Rattle.map_base.specs.declared.ids.SegId.{SegId}
use Rattle.map_base.specs.declared.ids.LineId.{LineId}
use Rattle.order_model.specs.declared.term.Term.{Term}
use Rattle.order_bound.specs.Pairs.{Pair, pair_in, open_segments, OpenLink, kept_links}
use Rattle.order_bound.specs.Bounds.{slot_cost}
use Rattle.order_bound.specs.Values.{share}
pub use Rattle.order_bound.specs.declared.pairs.ChildLink.{ChildLink}

-- the Link has this end
abbrev pub ends_at : SegId → OpenLink → Bool
ends_at s l = l.seg.0 == s.0 || l.other.0 == s.0

-- the end of a Link that is not this one
abbrev pub far_end : SegId → OpenLink → SegId
far_end s l = if l.seg.0 == s.0 then l.other else l.seg

-- the Link from a parent, with the child
abbrev pub child_link : SegId → OpenLink → ChildLink
child_link parent l = record { child = far_end parent l; link = l }

-- The segments of the trees below those that wait, in a walk from each in turn, each child after its parent: the first
-- that waits is the parent of those to which it has Links that are left, and these wait before all others. So the first
-- segment of a tree that comes in turn is its root.
abbrev pub walked : ℕ → List SegId → List OpenLink → List ChildLink
walked zero waiting links = []
walked (suc n) [] links = []
walked (suc n) (s ∷ waiting) links =
    map (child_link s) (filter (ends_at s) links)
    ++ walked n (map (far_end s) (filter (ends_at s) links) ++ waiting) (filter (λ l. not (ends_at s l)) links)

-- the children of the trees of Links between these segments, each tree with its first segment as its root
abbrev pub children_of : List SegId → List OpenLink → List ChildLink
children_of slots links = walked (length slots + length links) slots links

-- a number cut to a weight either way
abbrev pub cut_to : ℕ → ℤ → ℤ
cut_to w d = int_max (pos 0 -ℤ pos w) (int_min (pos w) d)

-- what is added on a segment by Links with their prices
abbrev pub shares : List (OpenLink × ℤ) → SegId → Bool → ℤ
shares [] s lesser_first = pos 0
shares (q ∷ priced) s lesser_first = share q.1 q.0 s lesser_first +ℤ shares priced s lesser_first

-- by how much x = 1, the greater line first, costs more than x = 0
abbrev pub rise_of : (Bool → ℤ) → ℤ
rise_of cost = cost false -ℤ cost true

-- turned by a flip
abbrev pub turned_by : Bool → ℤ → ℤ
turned_by flip d = if flip then pos 0 -ℤ d else d

-- the price of the Link to a child that costs this much more at x = 1: the rise cut to the Link's weight; where the child
-- is the Link's other segment it is told in z, and the price has the other sign
abbrev pub price_for : ChildLink → ℤ → ℤ
price_for c d =
    if c.link.seg.0 == c.child.0 then cut_to c.link.weight d
    else pos 0 -ℤ cut_to c.link.weight (turned_by c.link.flip d)

-- with the Link to one child more, priced by what the child costs with the prices of those below it
abbrev pub with_price : (SegId → Bool → ℕ) → ChildLink → List (OpenLink × ℤ) → List (OpenLink × ℤ)
with_price cost c below = (c.link, price_for c (rise_of (λ first. pos (cost c.child first) +ℤ shares below c.child first))) ∷ below

-- the Links to children with their prices, set from the last child to the first
abbrev pub priced : (SegId → Bool → ℕ) → List ChildLink → List (OpenLink × ℤ)
priced cost [] = []
priced cost (c ∷ later) = with_price cost c (priced cost later)

-- the kept Links of a pair with their canonical prices, each tree rooted at its least segment
abbrev pub pair_prices : List (List LineId) → List (List LineId) → List SegId → List (ℕ × Term) → Pair → List (OpenLink × ℤ)
pair_prices segs placed part terms p =
    priced (slot_cost placed terms p) (children_of (open_segments segs placed part p) (kept_links placed p terms))

-- the price of the Link of this number, 0 where it is none of these
abbrev pub price_among : List (OpenLink × ℤ) → ℕ → ℤ
price_among [] k = pos 0
price_among (q ∷ priced) k = if q.0.number == k then q.1 else price_among priced k

-- a price of 0 is not listed
abbrev pub listed : ℕ → ℤ → List (ℕ × ℤ)
listed k (pos zero) = []
listed k (pos (suc n)) = (k, pos (suc n)) ∷ []
listed k (negsuc n) = (k, negsuc n) ∷ []

-- the canonical prices on some of the terms
abbrev pub prices_on : List (List LineId) → List SegId → List (ℕ × Term) → List (List LineId) → List (ℕ × Term) → List (ℕ × ℤ)
prices_on segs part terms placed [] = []
prices_on segs part terms placed (t ∷ some) =
    listed t.0 (price_among (pair_prices segs placed part terms (pair_in t.1)) t.0) ++ prices_on segs part terms placed some

-- the canonical prices of a prefix, by the numbers of their Links
abbrev pub prices_for : List (List LineId) → List SegId → List (ℕ × Term) → List (List LineId) → List (ℕ × ℤ)
prices_for segs part terms placed = prices_on segs part terms placed terms
