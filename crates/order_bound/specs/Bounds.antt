-- The bound of a prefix: what each of its completions costs at least.
use Rattle.std.specs.Prelude.{ℕ, ◌+◌, ◌==◌, Bool, true, false, ◌&&◌, not, List, [], ◌∷◌, sum_by, min, if◌then◌else◌}
use Rattle.map_base.specs.declared.ids.SegId.{SegId}
use Rattle.map_base.specs.declared.ids.LineId.{LineId}
use Rattle.order_model.specs.declared.term.Term.{Term}
use Rattle.order_model.specs.declared.term.Term.TheVariants.{Side, Link, Apart}
use Rattle.order_model.specs.Problems.{lines_on}
use Rattle.order_model.specs.Costs.{comes_before, same_answer}
use Rattle.order_model.specs.Looks.{is_decided}
use Rattle.order_bound.specs.Decided.{decided_sum}
use Rattle.order_bound.specs.Pairs.{Pair, pair_of, is_pair, pairs_of, open_segments, OpenLink, kept_links}

-- what a term adds to the cost of a pair on a segment where it is open, if the pair's lesser line stands first there or
-- not: a Side of the pair on the segment, or a Link of the pair that is decided on its other segment
abbrev pub open_cost : List (List LineId) → Pair → SegId → Bool → Term → ℕ
open_cost placed p s lesser_first (Side seg first second w) =
    if is_pair p (pair_of first second) && seg.0 == s.0 && not (is_decided placed seg first second)
    then (if same_answer (first.0 == p.lesser.0) lesser_first then 0 else w) else 0
open_cost placed p s lesser_first (Link seg other flip a b w) =
    if is_pair p (pair_of a b) && seg.0 == s.0 && not (is_decided placed seg a b) && is_decided placed other a b
    then (if same_answer flip (same_answer lesser_first (comes_before (lines_on placed other) a b)) then w else 0)
    else if is_pair p (pair_of a b) && other.0 == s.0 && is_decided placed seg a b && not (is_decided placed other a b)
    then (if same_answer flip (same_answer (comes_before (lines_on placed seg) a b) lesser_first) then w else 0) else 0
open_cost placed p s lesser_first (Apart seg other a b w) = 0

-- what the pair costs on a segment where it is open, by its Sides and half-decided Links
abbrev pub slot_cost : List (List LineId) → List (ℕ × Term) → Pair → SegId → Bool → ℕ
slot_cost placed terms p s lesser_first = sum_by (λ (t : ℕ × Term). open_cost placed p s lesser_first t.1) terms

-- for each segment whether the lesser line of a pair stands first
abbrev pub Choice : Type 0
Choice = SegId → Bool

-- what a Link costs by a choice
abbrev pub link_cost : Choice → OpenLink → ℕ
link_cost choice l = if same_answer l.flip (same_answer (choice l.seg) (choice l.other)) then l.weight else 0

-- what a choice costs, by the costs of segments and by Links
abbrev pub choice_cost : List SegId → (SegId → Bool → ℕ) → List OpenLink → Choice → ℕ
choice_cost slots cost links choice = sum_by (λ s. cost s (choice s)) slots + sum_by (link_cost choice) links

-- the choice with this answer on a segment
abbrev pub with_answer : Choice → SegId → Bool → Choice
with_answer choice s first t = if t.0 == s.0 then first else choice t

-- the least over all choices on these segments
abbrev pub least_over : List SegId → Choice → (Choice → ℕ) → ℕ
least_over [] choice cost = cost choice
least_over (s ∷ rest) choice cost = min (least_over rest (with_answer choice s true) cost) (least_over rest (with_answer choice s false) cost)

-- the least that the pair costs over all its orders on the segments where it is open, by its Sides, half-decided Links
-- and kept Links
abbrev pub pair_bound : List (List LineId) → List (List LineId) → List SegId → List (ℕ × Term) → Pair → ℕ
pair_bound segs placed part terms p =
    least_over (open_segments segs placed part p) (λ s. true)
    (choice_cost (open_segments segs placed part p) (slot_cost placed terms p) (kept_links placed p terms))

-- the bound: the decided terms, and for each pair the least that it costs where it is open
abbrev pub bound_of : List (List LineId) → List SegId → List (ℕ × Term) → List (List LineId) → ℕ
bound_of segs part terms placed = decided_sum segs placed terms + sum_by (pair_bound segs placed part terms) (pairs_of terms)
