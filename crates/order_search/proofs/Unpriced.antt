-- A tree that is grown without prices, and gets them afterwards, is the live tree.
use Rattle.std.proofs.Common.{◌≡◌, ℕ, zero, suc, nat_lt, Bool, true, false, cond, List, [], ◌∷◌, refl, sym, ◌∙◌, ap, arith, Some, None, Option}
use Rattle.map_base.specs.declared.ids.SegId.{SegId}
use Rattle.map_base.specs.declared.ids.LineId.{LineId}
use Rattle.order_proof.specs.Plain.{PlainTree, split, close, Cases, no_case, case_of, cases_of}
use Rattle.order_proof.specs.Trees.{splits_of, splits_of_cases}
use Rattle.order_model.specs.Completions.{placed_more}
use Rattle.order_search.specs.Left.{first_open, room_of}
use Rattle.order_search.specs.LiveTrees.{BoundedPart, Best, next_lines, GrownTree, GrownCases, grow_cases, split_with, closed_with, live_node, live_within, live_at}
use Rattle.order_search.specs.Pricing.{unpriced, with_prices, with_prices_below}

-- a tree that is grown without prices is the same but for these
pub record IsPricedAs (q : BoundedPart) (placed : List (List LineId)) (bare whole : GrownTree) : Type 0 where
  pub tree : with_prices q placed bare.tree ≡ whole.tree
  pub best : bare.best ≡ whole.best

record ArePricedAs (q : BoundedPart) (placed : List (List LineId)) (s : SegId) (bare whole : GrownCases) : Type 0 where
  pub cases : with_prices_below q placed s (cases_of bare.cases) ≡ cases_of whole.cases
  pub best : bare.best ≡ whole.best

module _ (q : BoundedPart) where
  abbrev PricedAt : ℕ → Type 0
  PricedAt n = (placed : List (List LineId)) (b : Best) → IsPricedAs q placed (live_within n (unpriced q) placed b) (live_within n q placed b)

  priced_cases : (n : ℕ) → PricedAt n → (placed : List (List LineId)) (s : SegId) (lines : List LineId) (b : Best)
      → ArePricedAs q placed s (grow_cases (live_within n (unpriced q)) (unpriced q) placed s lines b) (grow_cases (live_within n q) q placed s lines b)
  priced_cases n again placed s [] b = record { cases = refl; best = refl }
  priced_cases n again placed s (a ∷ lines) b =
      let more : List (List LineId) = placed_more q.segs placed s a in
      let bare : GrownTree = live_within n (unpriced q) more b in
      let whole : GrownTree = live_within n q more b in
      let one = again more b in
      let rest = priced_cases n again placed s lines whole.best in
      let bare_rest : Best → GrownCases = λ c. grow_cases (live_within n (unpriced q)) (unpriced q) placed s lines c in
      record {
        cases = ap (λ c. case_of a (with_prices q more bare.tree) (with_prices_below q placed s (cases_of (bare_rest c).cases))) one.best
            ∙ ap (λ t. case_of a t (with_prices_below q placed s (cases_of (bare_rest whole.best).cases))) one.tree
            ∙ ap (case_of a whole.tree) rest.cases;
        best = ap (λ c. (bare_rest c).best) one.best ∙ rest.best;
      }

  priced_node : (n : ℕ) → PricedAt n → (placed : List (List LineId)) (f : Option SegId) (b : Best)
      → IsPricedAs q placed (live_node (live_within n (unpriced q)) (unpriced q) placed f b) (live_node (live_within n q) q placed f b)
  priced_node n again placed None b = record { tree = refl; best = refl }
  priced_node n again placed (Some s) b = by_test (nat_lt (q.bound placed) b.cost)
    where
      by_test : (t : Bool)
          → IsPricedAs q placed (cond t (split_with s (grow_cases (live_within n (unpriced q)) (unpriced q) placed s (next_lines q placed s) b)) (closed_with (unpriced q) placed b))
          (cond t (split_with s (grow_cases (live_within n q) q placed s (next_lines q placed s) b)) (closed_with q placed b))
      by_test true = let cases = priced_cases n again placed s (next_lines q placed s) b in record { tree = ap (split s) cases.cases; best = cases.best }
      by_test false = record { tree = refl; best = refl }

  priced : (n : ℕ) → PricedAt n
  priced zero placed b = record { tree = refl; best = refl }
  priced (suc n) placed b = priced_node n (priced n) placed (first_open q.segs q.part placed) b

  pub live_priced : (placed : List (List LineId)) (b : Best) → IsPricedAs q placed (live_at (unpriced q) placed b) (live_at q placed b)
  live_priced placed b = priced (room_of q.segs q.part placed) placed b

  mutual
    pub same_splits : (placed : List (List LineId)) (tree : PlainTree) → splits_of (with_prices q placed tree) ≡ splits_of tree
    same_splits placed (split s cases) = ap suc (same_splits_below placed s cases)
    same_splits placed (close prices) = refl

    same_splits_below : (placed : List (List LineId)) (s : SegId) (cases : Cases) → splits_of_cases (with_prices_below q placed s cases) ≡ splits_of_cases cases
    same_splits_below placed s no_case = refl
    same_splits_below placed s (case_of a tree rest) = omega (arith, same_splits (placed_more q.segs placed s a) tree, same_splits_below placed s rest)

  pub live_splits : (placed : List (List LineId)) (b : Best) → splits_of (live_at (unpriced q) placed b).tree ≡ splits_of (live_at q placed b).tree
  live_splits placed b =
      let is = live_priced placed b in sym (same_splits placed (live_at (unpriced q) placed b).tree) ∙ ap splits_of is.tree
