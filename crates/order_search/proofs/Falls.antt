-- The best so far only falls, and stays where it costs the same.
use Rattle.std.proofs.Common.{◌≡◌, ℕ, zero, suc, ◌<◌, ◌≤◌, nat_lt, Bool, true, false, cond, List, [], ◌∷◌, refl, ◌∙◌, arith, Some, None, Option}
use Rattle.std.proofs.lemmas.Bool.{ltb-true, ltb-false}
use Rattle.map_base.specs.declared.ids.SegId.{SegId}
use Rattle.map_base.specs.declared.ids.LineId.{LineId}
use Rattle.order_model.specs.Completions.{placed_more}
use Rattle.order_search.specs.Left.{first_open}
use Rattle.order_search.specs.LiveTrees.{BoundedPart, Best, best_at, better, next_lines, GrownTree, grow_cases, split_with, closed_with, live_node, live_within}

-- what is best costs no more than what was best, and where it costs the same it is the same
pub record IsNoWorse (old new : Best) : Type 0 where
  pub less : new.cost ≤ old.cost
  pub tie : new.cost ≡ old.cost → new ≡ old

no_worse : (b : Best) → IsNoWorse b b
no_worse b = record { less = omega arith; tie = λ e. refl }

then_no_worse : (a b c : Best) → IsNoWorse a b → IsNoWorse b c → IsNoWorse a c
then_no_worse a b c p r = record {
  less = omega (arith, p.less, r.less);
  tie = λ e. r.tie (omega (arith, e, p.less, r.less)) ∙ p.tie (omega (arith, e, p.less, r.less));
}

pub better_no_worse : (q : BoundedPart) (placed : List (List LineId)) (b : Best) → IsNoWorse b (better q placed b)
better_no_worse q placed b = by_test (nat_lt (q.cost placed) b.cost) refl
  where
    by_test : (t : Bool) → nat_lt (q.cost placed) b.cost ≡ t → IsNoWorse b (cond t (best_at q placed) b)
    by_test true e =
        let below : q.cost placed < b.cost = ltb-true (q.cost placed) b.cost e in
        record { less = omega (arith, below); tie = λ same. absurd (omega (arith, below, same)) }
    by_test false e = no_worse b

-- a complete prefix costs no less than the best after it
pub at_leaf : (q : BoundedPart) (placed : List (List LineId)) (b : Best) → (better q placed b).cost ≤ q.cost placed
at_leaf q placed b = by_test (nat_lt (q.cost placed) b.cost) refl
  where
    by_test : (t : Bool) → nat_lt (q.cost placed) b.cost ≡ t → (cond t (best_at q placed) b).cost ≤ q.cost placed
    by_test true e = omega arith
    by_test false e = ltb-false (q.cost placed) b.cost e

pub cases_no_worse : (next : List (List LineId) → Best → GrownTree) → ((placed : List (List LineId)) (b : Best) → IsNoWorse b (next placed b).best)
    → (q : BoundedPart) (placed : List (List LineId)) (s : SegId) (lines : List LineId) (b : Best) → IsNoWorse b (grow_cases next q placed s lines b).best
cases_no_worse next falls q placed s [] b = no_worse b
cases_no_worse next falls q placed s (a ∷ lines) b =
    let first : GrownTree = next (placed_more q.segs placed s a) b in
    then_no_worse b first.best (grow_cases next q placed s lines first.best).best (falls (placed_more q.segs placed s a) b) (cases_no_worse next falls q placed s lines first.best)

node_no_worse : (next : List (List LineId) → Best → GrownTree) → ((placed : List (List LineId)) (b : Best) → IsNoWorse b (next placed b).best)
    → (q : BoundedPart) (placed : List (List LineId)) (f : Option SegId) (b : Best) → IsNoWorse b (live_node next q placed f b).best
node_no_worse next falls q placed None b = better_no_worse q placed b
node_no_worse next falls q placed (Some s) b = by_test (nat_lt (q.bound placed) b.cost)
  where
    by_test : (t : Bool) → IsNoWorse b (cond t (split_with s (grow_cases next q placed s (next_lines q placed s) b)) (closed_with q placed b)).best
    by_test true = cases_no_worse next falls q placed s (next_lines q placed s) b
    by_test false = no_worse b

pub live_no_worse : (n : ℕ) (q : BoundedPart) (placed : List (List LineId)) (b : Best) → IsNoWorse b (live_within n q placed b).best
live_no_worse zero q placed b = better_no_worse q placed b
live_no_worse (suc n) q placed b = node_no_worse (live_within n q) (live_no_worse n q) q placed (first_open q.segs q.part placed) b
