-- A division changes what can be done at the segments that it touches alone.
use Rattle.std.proofs.Common.{◌≡◌, ℕ, ◌<◌, ◌≤◌, ◌==◌, nat_lt, Bool, true, false, not, ◌||◌, ◌&&◌, List, [], ◌∷◌, length, Some, None, refl, sym, ap, ◌∙◌, arith, inl, inr, eqb-true}
use Rattle.std.specs.Prelude.{slice_set, if◌then◌else◌}
use Rattle.std.specs.List.{AllByRecursion}
use Rattle.std.proofs.lemmas.Bool.{eqb-false, ltb-true, ltb-false}
use Rattle.std.proofs.lemmas.List.{get_or-set_other, get_or_past, get_or_append_left, length-set}
use Rattle.map_base.specs.declared.ids.SegId.{SegId}
use Rattle.map_base.specs.declared.ids.LineId.{LineId}
use Rattle.order_values.specs.declared.rule.Rule.{Rule}
use Rattle.order_values.specs.declared.rule.Rule.TheVariants.{Merge, Divide}
use Rattle.order_model.specs.declared.term.Term.{Term}
use Rattle.order_model.specs.declared.term.Term.TheVariants.{Side, Link, Apart}
use Rattle.order_model.specs.declared.problem.ProblemParts.{ProblemParts}
use Rattle.order_model.specs.Problems.{lines_on, IsTerm, IsProblem}
use Rattle.order_model.proofs.Lines.{both_true, either_true, neither}
use Rattle.order_rules.specs.PairWeights.{is_on}
use Rattle.order_rules.specs.Merging.{merge_applies}
use Rattle.order_rules.specs.Dividing.{others, is_with, is_across, renumbered, sent, divided}
use Rattle.order_rules.specs.Untangling.{rule_applies}
use Rattle.order_rules.specs.Touching.{IsLocal}
use Rattle.order_rules.proofs.PairSums.{first_of, second_of}
use Rattle.order_rules.proofs.MergeLess.{each_of_all, on_two}
use Rattle.order_rules.proofs.DivideCosts.{IsOfOne, IsFree, tied}
use Rattle.order_rules.proofs.DivideRule.{Divides, divides, covers, spoken, free_each, count}
use Rattle.order_rules.proofs.Unchanged.{AreAlike, IsUnseen, IsKeptOrUnseen}
use Rattle.order_rules.proofs.FarTerms.{IsFar, renumbered_alike, unseen, not_turned}
use Rattle.order_rules.proofs.Locality.{merge_same, divide_same, merge_local}

module _ (p : ProblemParts) (e : SegId) (group : List LineId) (is : IsProblem p) (ok : Divides p e group) where
  abbrev rest : List LineId
  rest = others (lines_on p.segs e) group

  abbrev new : SegId
  new = record { 0 = length p.segs }

  of_one : (t : Term) → IsTerm p.segs t → is_on e t ≡ true → IsOfOne group rest (first_of t) × IsOfOne group rest (second_of t)
  of_one t fits on = let two = on_two p.segs e t fits on in (covers p e group ok (first_of t) two.x_on, covers p e group ok (second_of t) two.y_on)

  -- what is across is a Side of the segment
  across_unseen : (t : Term) → IsTerm p.segs t → IsFree e group rest t → is_across e group rest t ≡ true → IsUnseen (IsFar new e) t
  across_unseen (Side seg first second w) fits free h =
      let parts = both_true (is_on e (Side seg first second w) && is_with group (Side seg first second w)) (is_with rest (Side seg first second w)) h in
      let front = both_true (is_on e (Side seg first second w)) (is_with group (Side seg first second w)) parts.0 in
      let here : (seg.0 == e.0) ≡ true = elim (either_true (seg.0 == e.0) (seg.0 == e.0) front.0) [ inl k ↦ k | inr k ↦ k ] in
      unseen (IsFar new e) (Side seg first second w) (λ s far. ap (λ (c : Bool). c || c) (ap (λ (n : ℕ). n == s.0) (eqb-true seg.0 e.0 here) ∙ far.1))
  across_unseen (Link seg other flip a b w) fits free h =
      let parts = both_true (is_on e (Link seg other flip a b w) && is_with group (Link seg other flip a b w)) (is_with rest (Link seg other flip a b w)) h in
      let front = both_true (is_on e (Link seg other flip a b w)) (is_with group (Link seg other flip a b w)) parts.0 in
      let ones = of_one (Link seg other flip a b w) fits front.0 in
      absurd (tied group rest (seg.0 == e.0 || other.0 == e.0) a b front.0 ones.0 ones.1 front.1 parts.1 free)
  across_unseen (Apart seg other a b w) fits free h =
      let parts = both_true (is_on e (Apart seg other a b w) && is_with group (Apart seg other a b w)) (is_with rest (Apart seg other a b w)) h in
      let front = both_true (is_on e (Apart seg other a b w)) (is_with group (Apart seg other a b w)) parts.0 in
      let ones = of_one (Apart seg other a b w) fits front.0 in
      absurd (tied group rest (seg.0 == e.0 || other.0 == e.0) a b front.0 ones.0 ones.1 front.1 parts.1 free)

  sent_alike : (t : Term) → AreAlike (IsFar new e) t (sent e new rest t)
  sent_alike t = by_test (is_on e t && is_with rest t)
    where
      by_test : (c : Bool) → AreAlike (IsFar new e) t (if c then renumbered e new t else t)
      by_test true = renumbered_alike new e t
      by_test false = record {
        side = refl;
        link = refl;
        apart = refl;
        weight = refl;
        lines = λ a b. refl;
        on = λ s h. refl;
        between = λ s o h k. refl;
        flip = λ s o q h k l. refl;
        against = λ s a b h. refl;
      }

  divide_each : (terms : List Term) → AllByRecursion (IsTerm p.segs) terms → AllByRecursion (IsFree e group rest) terms
      → AllByRecursion (IsKeptOrUnseen (IsFar new e) (λ t. not (is_across e group rest t)) (sent e new rest)) terms
  divide_each [] fit free = tt
  divide_each (t ∷ terms) fit free = (
    record { kept = λ h. sent_alike t; dropped = λ h. across_unseen t fit.0 free.0 (was_true (is_across e group rest t) h) },
    divide_each terms fit.1 free.1,
  )
    where
      was_true : (c : Bool) → not c ≡ false → c ≡ true
      was_true true h = refl
      was_true false h = sym h

  new_is_far : (s : SegId) → (s.0 == e.0 || s.0 == length p.segs) ≡ false → IsFar new e s
  new_is_far s h = let parts = neither (s.0 == e.0) (s.0 == length p.segs) h in (not_turned s.0 (length p.segs) parts.1, not_turned s.0 e.0 parts.0)

  lines_left : (s : SegId) → (s.0 == e.0 || s.0 == length p.segs) ≡ false → lines_on (divided p e group).segs s ≡ lines_on p.segs s
  lines_left s h = by_test (nat_lt s.0 (length p.segs)) refl
    where
      parts : ((s.0 == e.0) ≡ false) × ((s.0 == length p.segs) ≡ false)
      parts = neither (s.0 == e.0) (s.0 == length p.segs) h

      by_test : (c : Bool) → nat_lt s.0 (length p.segs) ≡ c → lines_on (divided p e group).segs s ≡ lines_on p.segs s
      by_test true k =
          let below : s.0 < length (slice_set p.segs e.0 group) = omega (arith, length-set p.segs e.0 group, ltb-true s.0 (length p.segs) k) in
          get_or_append_left (slice_set p.segs e.0 group) (rest ∷ []) [] s.0 below ∙ get_or-set_other p.segs e.0 s.0 group [] (eqb-false s.0 e.0 parts.0)
      by_test false k =
          let past : length p.segs ≤ s.0 = ltb-false s.0 (length p.segs) k in
          let far : length (divided p e group).segs ≤ s.0 = omega (arith, past, eqb-false s.0 (length p.segs) parts.1, count p e group ok) in
          get_or_past (divided p e group).segs s.0 [] far ∙ sym (get_or_past p.segs s.0 [] past)

  pub divide_local : IsLocal p (Divide e group)
  divide_local =
      let each = divide_each p.terms (each_of_all (IsTerm p.segs) p.terms is.terms) (free_each p e group ok p.terms (spoken p e group ok)) in
      record {
        lines = λ d h. lines_left d h;
        merges = λ d f h k.
            let same = merge_same (IsFar new e) (λ t. not (is_across e group rest t)) (sent e new rest) p.terms each d f (new_is_far d h) (new_is_far f k)
            p.segs (divided p e group).segs (lines_left d h) (lines_left f k) in
            ap (λ (c : Bool). if c then Some (Merge d f false) else if merge_applies (divided p e group) d f true then Some (Merge d f true) else None) (same false)
            ∙ ap (λ (c : Bool). if merge_applies p d f false then Some (Merge d f false) else if c then Some (Merge d f true) else None) (same true);
        divides = λ d a h.
            divide_same (IsFar new e) (λ t. not (is_across e group rest t)) (sent e new rest) p.terms each d (new_is_far d h) p.segs (divided p e group).segs (lines_left d h) a;
      }

-- a rule that applies
pub rule_local : (p : ProblemParts) (r : Rule) → IsProblem p → rule_applies p r ≡ true → IsLocal p r
rule_local p (Merge into from flip) is h = merge_local p into from flip
rule_local p (Divide seg first) is h = divide_local p seg first is (divides p seg first is h)
