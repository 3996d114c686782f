-- The terms of a part of a problem.
use Rattle.std.proofs.Common.{◌≡◌, ℕ, ◌+◌, ◌<◌, ◌==◌, Bool, true, false, cond, List, [], ◌∷◌, filter, refl, sym, ap, subst, ◌∙◌, ◌⊎◌, inl, inr, arith, eqb-true, true≢false}
use Rattle.std.specs.List.{All, AllByRecursion}
use Rattle.std.proofs.lemmas.Bool.{or_cases}
use Rattle.std.proofs.lemmas.List.Elements.{All-head, All-tail}
use Rattle.map_base.specs.declared.ids.SegId.{SegId}
use Rattle.map_base.specs.declared.ids.LineId.{LineId}
use Rattle.graph_core.specs.Consistent.{AreRising}
use Rattle.order_model.specs.declared.term.Term.{Term}
use Rattle.order_model.specs.Problems.{IsTerm}
use Rattle.order_model.specs.Parts.{IsRisingPart}
use Rattle.order_model.specs.PartTerms.{is_in, is_of, numbered_from, part_terms}
use Rattle.order_bound.proofs.Lists.{each_filter, Among, is_false}
use Rattle.order_bound.proofs.Worth.{AreApartSegments}
use Rattle.order_bound.proofs.Completing.{IsPart}
use Rattle.order_bound.proofs.Bounding.{AreNumbered}

numbers_from : (k : ℕ) (terms : List Term) → AllByRecursion (λ (t : ℕ × Term). k < t.0 + 1) (numbered_from k terms)
numbers_from k [] = tt
numbers_from k (t ∷ terms) = (omega arith, lowered (numbered_from (k + 1) terms) (numbers_from (k + 1) terms))
  where
    lowered : (some : List (ℕ × Term)) → AllByRecursion (λ (t : ℕ × Term). k + 1 < t.0 + 1) some → AllByRecursion (λ (t : ℕ × Term). k < t.0 + 1) some
    lowered [] h = tt
    lowered (u ∷ some) h = let first = h.0 in (omega (arith, first), lowered some h.1)

numbers_rise : (k : ℕ) (terms : List Term) → AreNumbered (numbered_from k terms)
numbers_rise k [] = tt
numbers_rise k (t ∷ terms) = (above (numbered_from (k + 1) terms) (numbers_from (k + 1) terms), numbers_rise (k + 1) terms)
  where
    above : (some : List (ℕ × Term)) → AllByRecursion (λ (t : ℕ × Term). k + 1 < t.0 + 1) some → AllByRecursion (λ (t : ℕ × Term). k < t.0) some
    above [] h = tt
    above (u ∷ some) h = let first = h.0 in (omega (arith, first), above some h.1)

numbered_filter : (p : ℕ × Term → Bool) (terms : List (ℕ × Term)) → AreNumbered terms → AreNumbered (filter p terms)
numbered_filter p [] h = tt
numbered_filter p (t ∷ terms) h = by_test (p t) (numbered_filter p terms h.1)
  where
    by_test : (b : Bool) → AreNumbered (filter p terms) → AreNumbered (cond b (t ∷ filter p terms) (filter p terms))
    by_test true rest = (each_filter (λ (u : ℕ × Term). t.0 < u.0) p terms h.0, rest)
    by_test false rest = rest

pub part_numbered : (terms : List Term) (part : List SegId) → AreNumbered (part_terms terms part)
part_numbered terms part = numbered_filter (λ (q : ℕ × Term). is_of part q.1) (numbered_from 0 terms) (numbers_rise 0 terms)

among_filter : (p : ℕ × Term → Bool) (terms : List (ℕ × Term)) (t : ℕ × Term) → Among t (filter p terms) → Among t terms × (p t ≡ true)
among_filter p [] t h = absurd h
among_filter p (u ∷ terms) t h = by_test (p u) refl h (among_filter p terms t)
  where
    by_test : (b : Bool) → p u ≡ b → Among t (cond b (u ∷ filter p terms) (filter p terms)) → (Among t (filter p terms) → Among t terms × (p t ≡ true)) → ((t ≡ u) ⊎ Among t terms) × (p t ≡ true)
    by_test true e (inl is) rest = (inl is, ap p is ∙ e)
    by_test true e (inr later) rest = let found = rest later in (inr found.0, found.1)
    by_test false e later rest = let found = rest later in (inr found.0, found.1)

among_numbered : (P : Term → Type 0) (k : ℕ) (terms : List Term) (t : ℕ × Term) → All P terms → Among t (numbered_from k terms) → P t.1
among_numbered P k [] t all h = absurd h
among_numbered P k (u ∷ terms) t all (inl is) = subst P (sym (ap (λ (v : ℕ × Term). v.1) is)) (All-head P u terms all)
among_numbered P k (u ∷ terms) t all (inr later) = among_numbered P (k + 1) terms t (All-tail P u terms all) later

rising_tail : (s : SegId) (part : List SegId) → IsRisingPart (s ∷ part) → (t : SegId) → is_in part t ≡ true → s.0 < t.0
rising_tail s [] h t e = absurd (true≢false (sym e))
rising_tail s (u ∷ part) h t e = elim (or_cases (u.0 == t.0) (is_in part t) e) [
  | inl here ↦ (let first = h.0 in let same = eqb-true u.0 t.0 here in omega (arith, first, same))
  | inr later ↦ (let first = h.0 in omega (arith, first, rising_tail u part h.1 t later))
]

pub rising_apart : (part : List SegId) → IsRisingPart part → AreApartSegments part
rising_apart [] h = tt
rising_apart (s ∷ []) h = (refl, tt)
rising_apart (s ∷ t ∷ part) h = (is_false (is_in (t ∷ part) s) (λ e. absurd (omega (arith, rising_tail s (t ∷ part) h s e))), rising_apart (t ∷ part) h.1)

pub part_of_problem : (segs : List (List LineId)) (terms : List Term) (part : List SegId) → All AreRising segs → All (IsTerm segs) terms → IsRisingPart part → IsPart segs part (part_terms terms part)
part_of_problem segs terms part rising known part_rises = record {
  rising = rising;
  apart = rising_apart part part_rises;
  known = λ t h. among_numbered (IsTerm segs) 0 terms t known (among_filter (λ (q : ℕ × Term). is_of part q.1) (numbered_from 0 terms) t h).0;
  inside = λ t h. (among_filter (λ (q : ℕ × Term). is_of part q.1) (numbered_from 0 terms) t h).1;
}
