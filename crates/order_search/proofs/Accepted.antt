-- The live tree of a part is accepted at the least cost that is met.
use Rattle.std.proofs.Common.{◌≡◌, ℕ, zero, suc, ◌<◌, ◌≤◌, ◌&&◌, nat_lt, Bool, true, false, cond, List, [], ◌∷◌, length, get_or, refl, ◌∙◌, ap, arith, inl, inr, Some, None, Option}
use Rattle.std.specs.List.{All, Contains}
use Rattle.std.proofs.lemmas.Bool.{ltb-true, lt-ltb, ltb-false, and_from}
use Rattle.std.proofs.lemmas.List.{get_or-set_same, get_or-set_other}
use Rattle.std.proofs.lemmas.List.Elements.{All-head, All-tail}
use Rattle.map_base.specs.declared.ids.SegId.{SegId}
use Rattle.map_base.specs.declared.ids.LineId.{LineId}
use Rattle.graph_core.specs.Consistent.{AreRising}
use Rattle.order_model.specs.Problems.{lines_on}
use Rattle.order_model.specs.Prefixes.{is_placed, with_line, ArePlacedLines}
use Rattle.order_model.proofs.PrefixLemmas.{placed_with_line}
use Rattle.order_proof.specs.Plain.{close, cases_of}
use Rattle.order_proof.specs.Trees.{lines_of}
use Rattle.order_model.specs.PartTerms.{is_in}
use Rattle.order_model.specs.Completions.{placed_more}
use Rattle.part_bounds.specs.PartStates.{IsWell}
use Rattle.order_bound.specs.Accepting.{are_those_left, is_split, accepts, accepts_cases}
use Rattle.order_model.specs.Questions.{Question}
use Rattle.order_bound.proofs.Sound.{same_or_other, all_in, rising_at}
use Rattle.order_search.specs.Left.{is_open, first_open, room_of, AreNext}
use Rattle.order_search.specs.LiveTrees.{BoundedPart, Best, better, next_lines, GrownTree, grow_cases, split_with, closed_with, live_node, live_within, live_at}
use Rattle.order_search.proofs.Rooms.{found_in, no_room_shut}
use Rattle.order_search.proofs.Nodes.{each_more, fewer_left}
use Rattle.order_search.proofs.OneLive.{lines_grown}
use Rattle.order_search.proofs.Falls.{at_leaf, live_no_worse, cases_no_worse}
use Rattle.order_search.proofs.NextLines.{are_next, some_next, those_next}

module _ (q : BoundedPart) (rising : All AreRising q.segs) (known : All (λ (s : SegId). s.0 < length q.segs) q.part) where
  pub well_more : (placed : List (List LineId)) (s : SegId) (a : LineId) → IsWell q.segs placed → s.0 < length q.segs
      → Contains (lines_on q.segs s) a → is_placed (lines_on placed s) a ≡ false → IsWell q.segs (placed_more q.segs placed s a)
  well_more placed s a ok s_known on fresh = record { each = each_more q known placed s a ok.each; lines = λ u u_known. line_at u u_known }
    where
      line_at : (u : ℕ) → u < length q.segs → ArePlacedLines (get_or q.segs u []) (get_or (placed_more q.segs placed s a) u [])
      line_at u u_known = elim (same_or_other u s.0) [
        | inl e ↦ rw (e, get_or-set_same placed s.0 (with_line (lines_on q.segs s) (lines_on placed s) a) [] (omega (arith, ok.each, s_known)))
            (placed_with_line (lines_on q.segs s) (lines_on placed s) a (rising_at q.segs s.0 rising) (ok.lines s.0 s_known) on fresh)
        | inr n ↦ rw (get_or-set_other placed s.0 u (with_line (lines_on q.segs s) (lines_on placed s) a) [] n) (ok.lines u u_known)
      ]

  pub seg_known : (placed : List (List LineId)) (s : SegId) → first_open q.segs q.part placed ≡ Some s → s.0 < length q.segs
  seg_known placed s e = all_in (λ (s : SegId). s.0 < length q.segs) q.part s known (found_in (is_open q.segs placed) q.part s e).1

  pub less_placed : (placed : List (List LineId)) (s : SegId) → first_open q.segs q.part placed ≡ Some s → length (lines_on placed s) < length (lines_on q.segs s)
  less_placed placed s e = ltb-true (length (lines_on placed s)) (length (lines_on q.segs s)) (found_in (is_open q.segs placed) q.part s e).0

-- what a checker takes of a part's bound and prices at this target: a Close with the prices of a prefix that is bounded
-- by the target, and the cost of a complete prefix as its bound
pub record AreTaken (q : BoundedPart) (asked : Question) : Type 0 where
  pub segs : asked.segs ≡ q.segs
  pub part : asked.part ≡ q.part
  pub closes : (placed : List (List LineId)) → IsWell q.segs placed → asked.target ≤ q.bound placed → accepts asked placed (close (q.prices placed)) ≡ true
  pub complete : (placed : List (List LineId)) → IsWell q.segs placed → first_open q.segs q.part placed ≡ None → q.bound placed ≡ q.cost placed

module _ (q : BoundedPart) (rising : All AreRising q.segs) (known : All (λ (s : SegId). s.0 < length q.segs) q.part) (asked : Question) (taken : AreTaken q asked) where
  leaf_accepted : (placed : List (List LineId)) (b : Best) → IsWell q.segs placed → first_open q.segs q.part placed ≡ None
      → asked.target ≤ (better q placed b).cost → accepts asked placed (close (q.prices placed)) ≡ true
  leaf_accepted placed b ok shut least = taken.closes placed ok (omega (arith, least, at_leaf q placed b, taken.complete placed ok shut))

  abbrev AcceptsAt : ℕ → Type 0
  AcceptsAt n = (placed : List (List LineId)) (b : Best) → IsWell q.segs placed → room_of q.segs q.part placed ≤ n
      → asked.target ≤ (live_within n q placed b).best.cost → accepts asked placed (live_within n q placed b).tree ≡ true

  accepted_cases : (n : ℕ) → AcceptsAt n → (placed : List (List LineId)) (b : Best) → IsWell q.segs placed → room_of q.segs q.part placed ≤ suc n
      → (s : SegId) → first_open q.segs q.part placed ≡ Some s → (lines : List LineId) → AreNext q.segs placed s lines
      → asked.target ≤ (grow_cases (live_within n q) q placed s lines b).best.cost
      → accepts_cases asked placed s (cases_of (grow_cases (live_within n q) q placed s lines b).cases) ≡ true
  accepted_cases n again placed b ok room s e [] next least = refl
  accepted_cases n again placed b ok room s e (a ∷ lines) next least =
      let P : LineId → Type 0 = λ (a : LineId). Contains (lines_on q.segs s) a × (is_placed (lines_on placed s) a ≡ false) in
      let more : List (List LineId) = placed_more q.segs placed s a in
      let first : GrownTree = live_within n q more b in
      let here = All-head P a lines next in
      let falls = fewer_left q known placed s a ok.each e in
      let later = cases_no_worse (live_within n q) (live_no_worse n q) q placed s lines first.best in
      let one : accepts asked more first.tree ≡ true =
      again more b (well_more q rising known placed s a ok (seg_known q rising known placed s e) here.0 here.1) (omega (arith, falls, room)) (omega (arith, least, later.less)) in
      let moved : accepts asked (placed_more asked.segs placed s a) first.tree ≡ true = ap (λ g. accepts asked (placed_more g placed s a) first.tree) taken.segs ∙ one in
      and_from (accepts asked (placed_more asked.segs placed s a) first.tree) (accepts_cases asked placed s (cases_of (grow_cases (live_within n q) q placed s lines first.best).cases))
      moved (accepted_cases n again placed first.best ok room s e lines (All-tail P a lines next) least)

  -- the lines that are left on a segment of the part, where there are some, are those of a Split
  pub split_holds : (placed : List (List LineId)) (s : SegId) → (is_open q.segs placed s ≡ true) × (is_in q.part s ≡ true) → is_split asked placed s (next_lines q placed s) ≡ true
  split_holds placed s open_here =
      let lines : List LineId = next_lines q placed s in
      and_from (is_in asked.part s) (nat_lt 0 (length lines) && are_those_left (lines_on asked.segs s) (lines_on placed s) lines)
      (ap (λ p. is_in p s) taken.part ∙ open_here.1)
      (and_from (nat_lt 0 (length lines)) (are_those_left (lines_on asked.segs s) (lines_on placed s) lines)
      (lt-ltb 0 (length lines) (some_next q placed s rising (ltb-true (length (lines_on placed s)) (length (lines_on q.segs s)) open_here.0)))
      (ap (λ g. are_those_left (lines_on g s) (lines_on placed s) lines) taken.segs ∙ those_next q placed s))

  accepted_node : (n : ℕ) → AcceptsAt n → (placed : List (List LineId)) (b : Best) → IsWell q.segs placed → room_of q.segs q.part placed ≤ suc n
      → (f : Option SegId) → first_open q.segs q.part placed ≡ f
      → asked.target ≤ (live_node (live_within n q) q placed f b).best.cost → accepts asked placed (live_node (live_within n q) q placed f b).tree ≡ true
  accepted_node n again placed b ok room None e least = leaf_accepted placed b ok e least
  accepted_node n again placed b ok room (Some s) e least = by_test (nat_lt (q.bound placed) b.cost) refl least
    where
      by_test : (t : Bool) → nat_lt (q.bound placed) b.cost ≡ t
          → asked.target ≤ (cond t (split_with s (grow_cases (live_within n q) q placed s (next_lines q placed s) b)) (closed_with q placed b)).best.cost
          → accepts asked placed (cond t (split_with s (grow_cases (live_within n q) q placed s (next_lines q placed s) b)) (closed_with q placed b)).tree ≡ true
      by_test true t least =
          and_from (is_split asked placed s (lines_of (cases_of (grow_cases (live_within n q) q placed s (next_lines q placed s) b).cases)))
          (accepts_cases asked placed s (cases_of (grow_cases (live_within n q) q placed s (next_lines q placed s) b).cases))
          (ap (is_split asked placed s) (lines_grown (live_within n q) q placed s (next_lines q placed s) b) ∙ split_holds placed s (found_in (is_open q.segs placed) q.part s e))
          (accepted_cases n again placed b ok room s e (next_lines q placed s) (are_next q placed s) least)
      by_test false t least = taken.closes placed ok (omega (arith, least, ltb-false (q.bound placed) b.cost t))

  accepted : (n : ℕ) → AcceptsAt n
  accepted zero placed b ok room least = leaf_accepted placed b ok (no_room_shut q.segs q.part placed room) least
  accepted (suc n) placed b ok room least = accepted_node n (accepted n) placed b ok room (first_open q.segs q.part placed) refl least

  pub live_accepted : (placed : List (List LineId)) (b : Best) → IsWell q.segs placed → asked.target ≤ (live_at q placed b).best.cost
      → accepts asked placed (live_at q placed b).tree ≡ true
  live_accepted placed b ok least = accepted (room_of q.segs q.part placed) placed b ok (omega arith) least
