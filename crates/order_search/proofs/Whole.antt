-- A search of a part from its beginning.
use Rattle.std.proofs.Common.{◌≡◌, ℕ, List, sym, ◌∙◌, ap, subst, Result, Ok, Err}
use Rattle.std.specs.Prelude.{IfErr}
use Rattle.map_base.specs.declared.ids.SegId.{SegId}
use Rattle.map_base.specs.declared.ids.LineId.{LineId}
use Rattle.order_model.specs.declared.term.Term.{Term}
use Rattle.order_model.specs.Prefixes.{none_placed}
use Rattle.order_proof.specs.Plain.{PlainTree}
use Rattle.order_proof.specs.Trees.{splits_of}
use Rattle.part_bounds.specs.PartStates.{PartState}
use Rattle.order_search.specs.declared.search_state.Search.{Search}
use Rattle.order_search.specs.LiveTrees.{BoundedPart, number_order, GrownTree, live_at, live_tree}
use Rattle.order_search.specs.Pricing.{unpriced, with_prices, IsOver}
use Rattle.order_search.specs.Bounded.{bounded_part}
use Rattle.order_search.specs.Searching.{part_of, best_of, due, IsBegun}
use Rattle.order_search.proofs.Unpriced.{live_priced, live_splits}
use Rattle.order_search.proofs.OverPrices.{live_over}

pub err_any : {A E : Type 0} (r : Result A E) (P : Type 0) → P → IfErr r (λ _. P)
err_any (Ok a) P p = tt
err_any (Err e) P p = p

module _ (segs : List (List LineId)) (part : List SegId) (terms : List (ℕ × Term)) (budget : ℕ) (search : Search) (begun : IsBegun segs part terms budget search) where
  abbrev q : BoundedPart
  q = bounded_part segs part terms

  due_begun : due search ≡ live_at (unpriced q) (none_placed segs) (number_order q)
  due_begun =
      ap (λ (b : PartState). live_at (unpriced (part_of b)) b.placed (best_of search)) begun.bounds
      ∙ ap (live_at (unpriced q) (none_placed segs)) begun.best

  pub best_whole : (due search).best ≡ (live_tree q).best
  best_whole = let is = live_priced q (none_placed segs) (number_order q) in ap (λ (g : GrownTree). g.best) due_begun ∙ is.best

  pub splits_whole : splits_of (due search).tree ≡ splits_of (live_tree q).tree
  splits_whole = ap (λ (g : GrownTree). splits_of g.tree) due_begun ∙ live_splits q (none_placed segs) (number_order q)

  pub tree_whole : (b : PartState) (t : PlainTree) → b ≡ search.bounds → t ≡ (due search).tree → with_prices (part_of b) b.placed t ≡ (live_tree q).tree
  tree_whole b t e is =
      let priced = live_priced q (none_placed segs) (number_order q) in
      ap (with_prices (part_of b) b.placed) (is ∙ ap (λ (g : GrownTree). g.tree) due_begun)
      ∙ ap (λ (x : PartState). with_prices (part_of x) x.placed (live_at (unpriced q) (none_placed segs) (number_order q)).tree) (e ∙ begun.bounds)
      ∙ priced.tree

  pub over_whole : (b : PartState) (t : PlainTree) → b ≡ search.bounds → t ≡ (due search).tree → IsOver b.segs b.placed t
  over_whole b t e is =
      let u = begun.under_way in
      let here : IsOver search.bounds.segs search.bounds.placed (due search).tree =
      live_over (unpriced (part_of search.bounds)) u.rising u.known search.bounds.placed (best_of search) u.well in
      subst (λ (x : PartState). IsOver x.segs x.placed t) (sym e) (subst (IsOver search.bounds.segs search.bounds.placed) (sym is) here)
