-- Where names are printed, one after another.
use Rattle.std.proofs.Common.{◌≡◌, ◌≢◌, ℕ, ◌+◌, ◌<◌, ◌==◌, Bool, true, false, cond, List, [], ◌∷◌, ◌++◌, length, get_or, set, take, replicate, Option, Some, None, refl, ap, sym, ◌∙◌}
use Rattle.std.proofs.lemmas.Bool.{eq-eqb, eqb-true, false≢true, ne_eqb}
use Rattle.std.proofs.lemmas.Grind.{get_or-set_at}
use Rattle.std.proofs.lemmas.List.{get_or-replicate, get_or-set_other, take_more}
use Rattle.poster_plan.specs.declared.layout.Printed.{Printed}
use Rattle.poster_rules.specs.Posters.{printed_of}
use Rattle.poster_picture.specs.Noted.{first_of}

printed_behind : (ps qs : List Printed) (i : ℕ) → printed_of (ps ++ qs) i ≡ first_of (printed_of ps i) (printed_of qs i)
printed_behind [] qs i = refl
printed_behind (p ∷ ps) qs i = by_test (p.mark == i) (printed_behind ps qs i)
  where
    by_test : (b : Bool) → printed_of (ps ++ qs) i ≡ first_of (printed_of ps i) (printed_of qs i) → cond b (Some p) (printed_of (ps ++ qs) i) ≡ first_of (cond b (Some p) (printed_of ps i)) (printed_of qs i)
    by_test true e = refl
    by_test false e = e

-- one name more
pub printed_more : (ps : List Printed) (k i : ℕ) (d : Printed) (old was new : Option Printed) → k < length ps → new ≡ first_of was (printed_of (get_or ps k d ∷ []) i) → was ≡ old → old ≡ printed_of (take k ps) i
    → new ≡ printed_of (take (k + 1) ps) i
printed_more ps k i d old was new low noted same before =
    noted
    ∙ ap (λ (o : Option Printed). first_of o (printed_of (get_or ps k d ∷ []) i)) (same ∙ before)
    ∙ sym (ap (λ (qs : List Printed). printed_of qs i) (take_more ps k d low) ∙ printed_behind (take k ps) (get_or ps k d ∷ []) i)

first_none : (o : Option Printed) → first_of o None ≡ o
first_none (Some p) = refl
first_none None = refl

-- no name yet
pub none_noted : (count i : ℕ) (places : List (Option Printed)) → places ≡ replicate count None → i < count → get_or places i None ≡ None
none_noted count i places e low = ap (λ (ps : List (Option Printed)). get_or ps i None) e ∙ get_or-replicate count i None None low

-- a name is noted at its mark, where none is yet, and nowhere else
pub noted_elsewhere : (p : Printed) (i : ℕ) (o : Option Printed) → p.mark ≢ i → o ≡ first_of o (printed_of (p ∷ []) i)
noted_elsewhere p i o apart = sym (ap (λ (b : Bool). first_of o (cond b (Some p) None)) (ne_eqb p.mark i apart) ∙ first_none o)

pub noted_at : (places : List (Option Printed)) (p : Printed) (i : ℕ) (new : Option Printed) → p.mark < length places → new ≡ first_of (get_or places p.mark None) (Some p)
    → get_or (set places p.mark new) i None ≡ first_of (get_or places i None) (printed_of (p ∷ []) i)
noted_at places p i new low is = by_test (p.mark == i) refl
  where
    by_test : (b : Bool) → (p.mark == i) ≡ b → get_or (set places p.mark new) i None ≡ first_of (get_or places i None) (cond b (Some p) None)
    by_test true e =
        let same : p.mark ≡ i = eqb-true p.mark i e in
        get_or-set_at places p.mark i new None (sym same) low ∙ is ∙ ap (λ (k : ℕ). first_of (get_or places k None) (Some p)) same
    by_test false e =
        let other : i ≢ p.mark = λ same. absurd (false≢true (sym e ∙ eq-eqb p.mark i (sym same))) in
        get_or-set_other places p.mark i new None other ∙ sym (first_none (get_or places i None))
