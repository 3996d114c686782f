-- A pair of lines keeps its prices where a placing changes nothing of it.
use Rattle.std.proofs.Common.{◌≡◌, ℕ, false, List, filter, sym, ap, ◌∙◌, inl, inr}
use Rattle.std.specs.List.{All}
use Rattle.std.proofs.Math.Path.{fun_ext}
use Rattle.std.proofs.lemmas.Bool.{and_cases}
use Rattle.map_base.specs.declared.ids.SegId.{SegId}
use Rattle.map_base.specs.declared.ids.LineId.{LineId}
use Rattle.order_model.specs.declared.term.Term.{Term}
use Rattle.order_model.specs.Problems.{lines_on}
use Rattle.order_bound.specs.declared.pairs.Pair.{Pair}
use Rattle.order_bound.specs.Pairs.{pair_in, open_segments, open_links, kept}
use Rattle.order_bound.specs.Bounds.{open_cost, slot_cost}
use Rattle.order_bound.specs.CanonicalPrices.{children_of, priced, pair_prices}
use Rattle.part_bounds.specs.PairGroups.{Group, meets, IsGroup}
use Rattle.part_bounds.specs.declared.changes.Change.{Change}
use Rattle.part_bounds.specs.Changes.{is_new_pair, is_changed, IsChange}
use Rattle.part_bounds.proofs.OwnSegments.{SameElsewhere, cost_same, same_ends, sum_kept, links_kept, open_kept}
use Rattle.part_bounds.proofs.OwnPrices.{own_prices_is}
use Rattle.part_bounds.proofs.PairsKept.{AlikeOn, alike_back, all_alike, costs_alike, links_alike, segments_alike, alike_unchanged, elsewhere_alike}

-- where the segments where a pair is open, what it costs there, and its open Links are the same
same_prices : (segs one two : List (List LineId)) (part : List SegId) (terms : List (ℕ × Term)) (p : Pair) → open_segments segs one part p ≡ open_segments segs two part p → slot_cost one terms p ≡ slot_cost two terms p
    → open_links one p terms ≡ open_links two p terms → pair_prices segs one part terms p ≡ pair_prices segs two part terms p
same_prices segs one two part terms p slots costs links =
    ap (λ l. priced (slot_cost one terms p) (children_of l (kept (λ s. s) (open_links one p terms)))) slots
    ∙ (ap (λ cost. priced cost (children_of (open_segments segs two part p) (kept (λ s. s) (open_links one p terms)))) costs
    ∙ ap (λ l. priced (slot_cost two terms p) (children_of (open_segments segs two part p) (kept (λ s. s) l))) links)

-- a pair for which prefixes are alike
prices_alike : (segs one two : List (List LineId)) (part : List SegId) (g : Group) → All (λ (t : ℕ × Term). g.0 ≡ pair_in t.1) g.1 → AlikeOn g.0 one two → pair_prices segs one part g.1 g.0 ≡ pair_prices segs two part g.1 g.0
prices_alike segs one two part g mine same =
    let seen = all_alike g.0 one two g.1 mine same in
    same_prices segs one two part g.1 g.0 (segments_alike segs one two g.0 part (λ t i. same t)) (costs_alike one two g.0 g.1 seen) (links_alike one two g.0 g.1 seen)

-- a pair without a term on the segment where lines are placed
prices_elsewhere : (segs one two : List (List LineId)) (part : List SegId) (g : Group) (s : SegId) → meets g.1 s ≡ false → SameElsewhere s one two → pair_prices segs one part g.1 g.0 ≡ pair_prices segs two part g.1 g.0
prices_elsewhere segs one two part g s none same =
    let p : Pair = g.0 in
    let terms : List (ℕ × Term) = g.1 in
    let own : List SegId = filter (meets terms) part in
    own_prices_is segs one part terms p
    ∙ (same_prices segs one two own terms p (open_kept segs one two (meets terms) part p s none same)
    (fun_ext (λ v. fun_ext (λ x. sum_kept (λ (t : ℕ × Term). open_cost one p v x t.1) (λ (t : ℕ × Term). open_cost two p v x t.1) terms s none (λ t e. let ends = same_ends s one two t.1 same e in cost_same one two p v x t.1 ends.0 ends.1))))
    (links_kept one two p terms s none same)
    ∙ sym (own_prices_is segs two part terms p))

pub left_by_placing : (segs one two : List (List LineId)) (part : List SegId) (c : Change) (s : SegId) (g : Group) → c.seg ≡ s → SameElsewhere s two one → IsChange (lines_on one s) (lines_on two s) c
    → IsGroup segs part g → is_changed c g ≡ false → pair_prices segs two part g.1 g.0 ≡ pair_prices segs one part g.1 g.0
left_by_placing segs one two part c s g here same ok fit none = elim (and_cases (is_new_pair c g.0) (meets g.1 c.seg) none) [
  | inl old ↦ prices_alike segs two one part g fit.mine (elsewhere_alike g.0 two one s same (alike_back g.0.lesser g.0.greater (lines_on one s) (lines_on two s) (alike_unchanged (lines_on one s) (lines_on two s) c g.0 ok old)))
  | inr off ↦ prices_elsewhere segs two one part g s (ap (meets g.1) (sym here) ∙ off) same
]

pub left_by_taking : (segs one two : List (List LineId)) (part : List SegId) (c : Change) (s : SegId) (g : Group) → c.seg ≡ s → SameElsewhere s two one → IsChange (lines_on two s) (lines_on one s) c
    → IsGroup segs part g → is_changed c g ≡ false → pair_prices segs two part g.1 g.0 ≡ pair_prices segs one part g.1 g.0
left_by_taking segs one two part c s g here same ok fit none = elim (and_cases (is_new_pair c g.0) (meets g.1 c.seg) none) [
  | inl old ↦ prices_alike segs two one part g fit.mine (elsewhere_alike g.0 two one s same (alike_unchanged (lines_on two s) (lines_on one s) c g.0 ok old))
  | inr off ↦ prices_elsewhere segs two one part g s (ap (meets g.1) (sym here) ∙ off) same
]
