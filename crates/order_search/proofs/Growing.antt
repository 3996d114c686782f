-- Cases that grow one by one.
use Rattle.std.proofs.Common.{◌≡◌, ℕ, zero, suc, ◌+◌, ◌<◌, ◌≤◌, List, [], ◌∷◌, ◌++◌, length, take, get_or, refl, ◌∙◌, ap, arith}
use Rattle.std.proofs.lemmas.List.{take_more}
use Rattle.map_base.specs.declared.ids.SegId.{SegId}
use Rattle.map_base.specs.declared.ids.LineId.{LineId}
use Rattle.order_proof.specs.Plain.{PlainTree, cases_of}
use Rattle.order_proof.specs.Trees.{splits_of, splits_of_cases}
use Rattle.order_model.specs.Completions.{placed_more}
use Rattle.order_search.specs.LiveTrees.{BoundedPart, Best, GrownTree, GrownCases, with_case, grow_cases}

-- one case more at the end
abbrev pub with_last : GrownCases → LineId → GrownTree → GrownCases
with_last grown a last = record { cases = grown.cases ++ (a, last.tree) ∷ []; best = last.best }

module _ (next : List (List LineId) → Best → GrownTree) (q : BoundedPart) (placed : List (List LineId)) (s : SegId) where
  abbrev pub grown : List LineId → Best → GrownCases
  grown lines b = grow_cases next q placed s lines b

  abbrev pub grown_next : LineId → Best → GrownTree
  grown_next a b = next (placed_more q.segs placed s a) b

  grown_more : (lines : List LineId) (a : LineId) (b : Best) → grown (lines ++ a ∷ []) b ≡ with_last (grown lines b) a (grown_next a (grown lines b).best)
  grown_more [] a b = refl
  grown_more (x ∷ lines) a b = let first : GrownTree = grown_next x b in ap (with_case x first) (grown_more lines a first.best)

  pub grown_upto : (lines : List LineId) (i : ℕ) (d : LineId) (b : Best) → i < length lines
      → grown (take (i + 1) lines) b ≡ with_last (grown (take i lines) b) (get_or lines i d) (grown_next (get_or lines i d) (grown (take i lines) b).best)
  grown_upto lines i d b below = ap (λ l. grown l b) (take_more lines i d below) ∙ grown_more (take i lines) (get_or lines i d) b

  abbrev pub splits_in : GrownCases → ℕ
  splits_in grown = splits_of_cases (cases_of grown.cases)

  -- the splits of the cases so far and of the next one are no more than those of all
  pub splits_upto : (lines : List LineId) (i : ℕ) (d : LineId) (b : Best) → i < length lines
      → splits_in (grown (take i lines) b) + splits_of (grown_next (get_or lines i d) (grown (take i lines) b).best).tree ≤ splits_in (grown lines b)
  splits_upto [] i d b below = absurd (omega (arith, below))
  splits_upto (x ∷ lines) zero d b below = omega arith
  splits_upto (x ∷ lines) (suc i) d b below = omega (arith, splits_upto lines i d (grown_next x b).best (omega (arith, below)))
