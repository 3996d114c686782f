-- A tree is accepted exactly where none of its nodes fails.
use Rattle.std.proofs.Common.{◌≡◌, ◌↔◌, ◌&&◌, Bool, true, false, cond, List, [], ◌∷◌, refl, sym, ◌∙◌, ap, true≢false, Some, None, Option}
use Rattle.map_base.specs.declared.ids.SegId.{SegId}
use Rattle.map_base.specs.declared.ids.LineId.{LineId}
use Rattle.order_proof.specs.Plain.{PlainTree, split, close, Cases, no_case, case_of}
use Rattle.order_proof.specs.Trees.{lines_of}
use Rattle.order_model.specs.Completions.{placed_more}
use Rattle.order_bound.specs.Accepting.{is_closed, is_split, accepts, accepts_cases, after_line, first_of, failing, failing_case}
use Rattle.order_model.specs.Questions.{Question}
use Rattle.order_model.proofs.Lines.{both_true}

some_differs : (way : List LineId) → Some way ≡ None → ⊥
some_differs way h = cc

chosen : (b : Bool) → b ≡ true → (f : Option (List LineId)) → cond b f (Some []) ≡ f
chosen true h f = refl
chosen false h f = absurd (true≢false (sym h))

passed : (b : Bool) (f : Option (List LineId)) → cond b f (Some []) ≡ None → (b ≡ true) × (f ≡ None)
passed true f h = (refl, h)
passed false f h = absurd (some_differs [] h)

first_none : (a : LineId) (f g : Option (List LineId)) → first_of (after_line a f) g ≡ None → (f ≡ None) × (g ≡ None)
first_none a None g h = (refl, h)
first_none a (Some way) g h = absurd (some_differs (a ∷ way) h)

mutual
  none_fails : (q : Question) (placed : List (List LineId)) (tree : PlainTree) → accepts q placed tree ≡ true → failing q placed tree ≡ None
  none_fails q placed (split s cases) h =
      let both = both_true (is_split q placed s (lines_of cases)) (accepts_cases q placed s cases) h in
      chosen (is_split q placed s (lines_of cases)) both.0 (failing_case q placed s cases) ∙ no_case_fails q placed s cases both.1
  none_fails q placed (close prices) h = chosen (is_closed q placed prices) h None

  no_case_fails : (q : Question) (placed : List (List LineId)) (s : SegId) (cases : Cases) → accepts_cases q placed s cases ≡ true → failing_case q placed s cases ≡ None
  no_case_fails q placed s no_case h = refl
  no_case_fails q placed s (case_of a tree rest) h =
      let both = both_true (accepts q (placed_more q.segs placed s a) tree) (accepts_cases q placed s rest) h in
      ap (λ f. first_of (after_line a f) (failing_case q placed s rest)) (none_fails q (placed_more q.segs placed s a) tree both.0) ∙ no_case_fails q placed s rest both.1

both_hold : (a b : Bool) → a ≡ true → b ≡ true → (a && b) ≡ true
both_hold true b h g = g
both_hold false b h g = absurd (true≢false (sym h))

mutual
  pub accepted_where_none : (q : Question) (placed : List (List LineId)) (tree : PlainTree) → failing q placed tree ≡ None → accepts q placed tree ≡ true
  accepted_where_none q placed (split s cases) h =
      let both = passed (is_split q placed s (lines_of cases)) (failing_case q placed s cases) h in
      both_hold (is_split q placed s (lines_of cases)) (accepts_cases q placed s cases) both.0 (cases_where_none q placed s cases both.1)
  accepted_where_none q placed (close prices) h = (passed (is_closed q placed prices) None h).0

  cases_where_none : (q : Question) (placed : List (List LineId)) (s : SegId) (cases : Cases) → failing_case q placed s cases ≡ None → accepts_cases q placed s cases ≡ true
  cases_where_none q placed s no_case h = refl
  cases_where_none q placed s (case_of a tree rest) h =
      let both = first_none a (failing q (placed_more q.segs placed s a) tree) (failing_case q placed s rest) h in
      both_hold (accepts q (placed_more q.segs placed s a) tree) (accepts_cases q placed s rest)
      (accepted_where_none q (placed_more q.segs placed s a) tree both.0) (cases_where_none q placed s rest both.1)

pub accepted_exactly : (q : Question) (placed : List (List LineId)) (tree : PlainTree) → (accepts q placed tree ≡ true ↔ failing q placed tree ≡ None)
accepted_exactly q placed tree = (none_fails q placed tree, accepted_where_none q placed tree)
