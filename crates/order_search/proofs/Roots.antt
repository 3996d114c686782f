-- The prefix in which no line is chosen.
use Rattle.std.proofs.Common.{◌≡◌, ℕ, zero, suc, ◌+◌, ◌-◌, ◌<◌, ◌≤◌, ◌==◌, Bool, true, false, cond, List, [], ◌∷◌, ◌++◌, length, get_or, refl, sym, ◌∙◌, ap, subst, arith, eqb-true}
use Rattle.std.specs.List.{All, find}
use Rattle.std.specs.Option.{option_to_list}
use Rattle.std.proofs.lemmas.List.{length-map}
use Rattle.map_base.specs.declared.ids.SegId.{SegId}
use Rattle.map_base.specs.declared.ids.LineId.{LineId}
use Rattle.graph_core.specs.Consistent.{AreRising}
use Rattle.order_model.specs.Problems.{lines_on}
use Rattle.order_model.specs.Parts.{IsRisingPart}
use Rattle.order_model.specs.Prefixes.{is_unplaced, first_placed, none_placed, ArePlacedLines}
use Rattle.order_model.proofs.PrefixLemmas.{first_placed_fits}
use Rattle.order_proof.specs.Trees.{splits_of}
use Rattle.order_bound.proofs.Sound.{rising_at}
use Rattle.part_bounds.specs.PartStates.{IsWell}
use Rattle.order_search.specs.LiveTrees.{BoundedPart, live_tree, number_order}
use Rattle.order_search.specs.Finding.{orders_of, prefixes_of, incomplete_in}
use Rattle.order_search.proofs.Counting.{few_orders, few_prefixes, rising_once, live_counted}

pub none_at : (segs : List (List LineId)) (n : ℕ) → get_or (none_placed segs) n [] ≡ first_placed (get_or segs n [])
none_at [] n = refl
none_at (l ∷ segs) zero = refl
none_at (l ∷ segs) (suc n) = none_at segs n

pub none_each : (segs : List (List LineId)) → length (none_placed segs) ≡ length segs
none_each segs = length-map segs first_placed

pub none_well : (segs : List (List LineId)) → All AreRising segs → IsWell segs (none_placed segs)
none_well segs rising = record {
  each = none_each segs;
  lines = λ s known. subst (ArePlacedLines (get_or segs s [])) (sym (none_at segs s)) (first_placed_fits (get_or segs s []) (rising_at segs s rising));
}

-- as many are left of a function that doesn't tell a lone line from none
pub left_as : (f : ℕ → ℕ) → ((n : ℕ) → n ≤ 1 → f n ≡ 1) → (lines : List LineId) → f (length lines - length (first_placed lines)) ≡ f (length lines)
left_as f few lines = by_test (0 + 1 == length lines) refl
  where
    by_test : (b : Bool) → (0 + 1 == length lines) ≡ b → f (length lines - length (cond b ([] ++ option_to_list (find (is_unplaced []) lines)) [])) ≡ f (length lines)
    by_test true e =
        let one : 1 ≡ length lines = eqb-true 1 (length lines) e in
        few (length lines - length ([] ++ option_to_list (find (is_unplaced []) lines))) (omega (arith, one)) ∙ sym (few (length lines) (omega (arith, one)))
    by_test false e = let all : length lines - 0 ≡ length lines = omega arith in ap f all

pub root_counted : (q : BoundedPart) → All AreRising q.segs → All (λ (s : SegId). s.0 < length q.segs) q.part → IsRisingPart q.part
    → splits_of (live_tree q).tree ≤ incomplete_in q.segs q.part
root_counted q rising known part_rises =
    live_counted q rising known (rising_once q.part part_rises) (none_placed q.segs) (number_order q) (none_well q.segs rising)
    (λ u. ap (λ l. orders_of (length (lines_on q.segs u) - length l)) (none_at q.segs u.0) ∙ left_as orders_of few_orders (lines_on q.segs u))
    (λ u. ap (λ l. prefixes_of (length (lines_on q.segs u) - length l)) (none_at q.segs u.0) ∙ left_as prefixes_of few_prefixes (lines_on q.segs u))
