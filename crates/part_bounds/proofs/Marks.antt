-- Pairs are marked as stale, and their marks taken away.
use Rattle.std.proofs.Common.{◌≡◌, ◌≢◌, ℕ, ◌+◌, ◌<◌, ◌==◌, Bool, true, false, cond, ◌||◌, List, [], ◌∷◌, ◌++◌, length, take, set, get_or, refl, sym, ap, subst, ◌∙◌, arith, eqb-true, eq-eqb, true≢false, get_or-set_same, get_or-set_other, below_more}
use Rattle.std.specs.Prelude.{ℤ, pos}
use Rattle.std.proofs.lemmas.List.{take_more, get_or_default}
use Rattle.order_model.specs.declared.term.Term.{Term}
use Rattle.part_bounds.specs.declared.changes.Change.{Change}
use Rattle.part_bounds.specs.declared.pair_terms.PairTerms.{PairTerms}
use Rattle.part_bounds.specs.Kept.{has_number, cleared, is_changed_pair, AreMarked}

-- Marks.

pub marked_more : (c : Change) (pairs : List PairTerms) (i : ℕ) (e : PairTerms) (before stale after : List Bool) → e ≡ get_or pairs i e → AreMarked c pairs i before stale → length after ≡ length stale
    → ((k : ℕ) → get_or after k true ≡ false → get_or stale k true ≡ false) → (get_or after i true ≡ false → is_changed_pair c e ≡ false) → AreMarked c pairs (i + 1) before after
marked_more c pairs i e before stale after here ok each still marked = record {
  each = each ∙ ok.each;
  still = λ k h. ok.still k (still k h);
  marked = λ k f b. below_more (λ j. (f : PairTerms) → j < length pairs → f ≡ get_or pairs j f → get_or after j true ≡ false → is_changed_pair c f ≡ false) i
      (λ j h f within is fresh. ok.marked j f h within is (still j fresh))
      (λ f within is fresh. subst (λ (x : PairTerms). is_changed_pair c x ≡ false) (here ∙ (get_or_default pairs i e f within ∙ sym is)) (marked fresh)) k b f;
}

-- Prices that are taken away.
