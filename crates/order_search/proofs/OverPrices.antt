-- Trees over a prefix, and their prices, case by case.
use Rattle.std.proofs.Common.{◌≡◌, ℕ, zero, suc, ◌+◌, ◌<◌, nat_lt, Bool, true, false, cond, List, [], ◌∷◌, ◌++◌, length, map, take, get_or, refl, ◌∙◌, ap, arith, Option, Some, None}
use Rattle.std.specs.List.{All, Contains}
use Rattle.std.proofs.lemmas.List.{take_more}
use Rattle.std.proofs.lemmas.List.Elements.{All-head, All-tail}
use Rattle.map_base.specs.declared.ids.SegId.{SegId}
use Rattle.map_base.specs.declared.ids.LineId.{LineId}
use Rattle.graph_core.specs.Consistent.{AreRising}
use Rattle.order_model.specs.Problems.{lines_on}
use Rattle.order_model.specs.Prefixes.{is_placed}
use Rattle.order_model.specs.Completions.{placed_more}
use Rattle.order_proof.specs.declared.tree.Tree.{Tree}
use Rattle.order_proof.specs.Plain.{PlainTree, case_of, cases_of, plain, plain_children}
use Rattle.part_bounds.specs.PartStates.{IsWell}
use Rattle.order_search.specs.Left.{first_open, room_of, AreNext}
use Rattle.order_search.specs.LiveTrees.{BoundedPart, Best, next_lines, grow_cases, split_with, closed_with, live_node, live_within, live_at}
use Rattle.order_search.specs.Pricing.{with_prices, with_prices_below, priced_case, IsOver, AreOver}
use Rattle.order_search.proofs.NextLines.{are_next}
use Rattle.order_search.proofs.Accepted.{well_more, seg_known}

-- The prices of cases, one by one.

pub below_cases : (q : BoundedPart) (placed : List (List LineId)) (s : SegId) (cs : List (LineId × Tree))
    → with_prices_below q placed s (plain_children cs) ≡ cases_of (map (priced_case q placed s) cs)
below_cases q placed s [] = refl
below_cases q placed s (c ∷ cs) = ap (case_of c.0 (with_prices q (placed_more q.segs placed s c.0) (plain c.1))) (below_cases q placed s cs)

map_last : (f : LineId × Tree → LineId × PlainTree) (cs : List (LineId × Tree)) (c : LineId × Tree) → map f (cs ++ c ∷ []) ≡ map f cs ++ f c ∷ []
map_last f [] c = refl
map_last f (x ∷ cs) c = ap (λ l. f x ∷ l) (map_last f cs c)

pub priced_more : (f : LineId × Tree → LineId × PlainTree) (cs : List (LineId × Tree)) (i : ℕ) (d : LineId × Tree) → i < length cs
    → map f (take (i + 1) cs) ≡ map f (take i cs) ++ f (get_or cs i d) ∷ []
priced_more f cs i d below = ap (map f) (take_more cs i d below) ∙ map_last f (take i cs) (get_or cs i d)

-- each case of a tree over a prefix
pub record IsCaseOver (segs placed : List (List LineId)) (s : SegId) (c : LineId × Tree) : Type 0 where
  pub line : Contains (lines_on segs s) c.0
  pub unplaced : is_placed (lines_on placed s) c.0 ≡ false
  pub over : IsOver segs (placed_more segs placed s c.0) (plain c.1)

pub case_over : (segs placed : List (List LineId)) (s : SegId) (cs : List (LineId × Tree)) (i : ℕ) (d : LineId × Tree) → AreOver segs placed s (plain_children cs)
    → i < length cs → IsCaseOver segs placed s (get_or cs i d)
case_over segs placed s [] i d over below = absurd (omega (arith, below))
case_over segs placed s (c ∷ cs) zero d over below = record { line = over.0.0; unplaced = over.0.1; over = over.1 }
case_over segs placed s (c ∷ cs) (suc i) d over below = case_over segs placed s cs i d over.2 (omega (arith, below))

-- The live tree is over its prefix.

module _ (q : BoundedPart) (rising : All AreRising q.segs) (known : All (λ (s : SegId). s.0 < length q.segs) q.part) where
  abbrev OverAt : ℕ → Type 0
  OverAt n = (placed : List (List LineId)) (b : Best) → IsWell q.segs placed → IsOver q.segs placed (live_within n q placed b).tree

  over_cases : (n : ℕ) → OverAt n → (placed : List (List LineId)) (b : Best) → IsWell q.segs placed → (s : SegId) → first_open q.segs q.part placed ≡ Some s
      → (lines : List LineId) → AreNext q.segs placed s lines → AreOver q.segs placed s (cases_of (grow_cases (live_within n q) q placed s lines b).cases)
  over_cases n again placed b ok s e [] next = tt
  over_cases n again placed b ok s e (a ∷ lines) next =
      let P : LineId → Type 0 = λ (a : LineId). Contains (lines_on q.segs s) a × (is_placed (lines_on placed s) a ≡ false) in
      let more : List (List LineId) = placed_more q.segs placed s a in
      let fits = All-head P a lines next in (
        fits,
        again more b (well_more q rising known placed s a ok (seg_known q rising known placed s e) fits.0 fits.1),
        over_cases n again placed (live_within n q more b).best ok s e lines (All-tail P a lines next),
      )

  over_node : (n : ℕ) → OverAt n → (placed : List (List LineId)) (b : Best) → IsWell q.segs placed
      → (f : Option SegId) → first_open q.segs q.part placed ≡ f → IsOver q.segs placed (live_node (live_within n q) q placed f b).tree
  over_node n again placed b ok None e = tt
  over_node n again placed b ok (Some s) e = by_test (nat_lt (q.bound placed) b.cost)
    where
      by_test : (t : Bool) → IsOver q.segs placed (cond t (split_with s (grow_cases (live_within n q) q placed s (next_lines q placed s) b)) (closed_with q placed b)).tree
      by_test true = (seg_known q rising known placed s e, over_cases n again placed b ok s e (next_lines q placed s) (are_next q placed s))
      by_test false = tt

  over : (n : ℕ) → OverAt n
  over zero placed b ok = tt
  over (suc n) placed b ok = over_node n (over n) placed b ok (first_open q.segs q.part placed) refl

  pub live_over : (placed : List (List LineId)) (b : Best) → IsWell q.segs placed → IsOver q.segs placed (live_at q placed b).tree
  live_over placed b ok = over (room_of q.segs q.part placed) placed b ok
