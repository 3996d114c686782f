-- Where the first segment is on which a line is left.
use Rattle.std.proofs.Common.{◌≡◌, ℕ, zero, suc, ◌+◌, ◌<◌, ◌≤◌, Bool, true, false, cond, List, [], ◌∷◌, ◌++◌, length, take, get_or, refl, ◌∙◌, ap, arith, Some, None, Option}
use Rattle.std.specs.List.{find}
use Rattle.std.proofs.lemmas.List.{take_more}
use Rattle.map_base.specs.declared.ids.SegId.{SegId}

none_step : (b : Bool) (s : SegId) (f : Option SegId) → cond b (Some s) f ≡ None → (b ≡ false) × (f ≡ None)
none_step true s f h = cc
none_step false s f h = (refl, h)

none_last : (p : SegId → Bool) (xs : List SegId) (a : SegId) → find p xs ≡ None → p a ≡ false → find p (xs ++ a ∷ []) ≡ None
none_last p [] a shut here = rw here refl
none_last p (s ∷ xs) a shut here = let step = none_step (p s) s (find p xs) shut in rw step.0 (none_last p xs a step.1 here)

-- one segment more on which no line is left
pub shut_more : (p : SegId → Bool) (part : List SegId) (i : ℕ) (d : SegId) → i < length part → find p (take i part) ≡ None → p (get_or part i d) ≡ false
    → find p (take (i + 1) part) ≡ None
shut_more p part i d below shut here = ap (find p) (take_more part i d below) ∙ none_last p (take i part) (get_or part i d) shut here

-- the first segment on which a line is left
pub opens_at : (p : SegId → Bool) (part : List SegId) (i : ℕ) (d : SegId) → i < length part → find p (take i part) ≡ None → p (get_or part i d) ≡ true
    → find p part ≡ Some (get_or part i d)
opens_at p [] i d below shut here = absurd (omega (arith, below))
opens_at p (s ∷ part) zero d below shut here = rw here refl
opens_at p (s ∷ part) (suc i) d below shut here =
    let step = none_step (p s) s (find p (take i part)) shut in
    rw step.0 (opens_at p part i d (omega (arith, below)) step.1 here)

-- no line is left on any
pub shut_all : (p : SegId → Bool) (part : List SegId) (i : ℕ) → length part ≤ i → find p (take i part) ≡ None → find p part ≡ None
shut_all p [] i all shut = refl
shut_all p (s ∷ part) zero all shut = absurd (omega (arith, all))
shut_all p (s ∷ part) (suc i) all shut =
    let step = none_step (p s) s (find p (take i part)) shut in
    rw step.0 (shut_all p part i (omega (arith, all)) step.1)

-- what is shut stays shut where fewer are open
pub stays_shut : (p q : SegId → Bool) (part : List SegId) → ((s : SegId) → p s ≡ false → q s ≡ false) → find p part ≡ None → find q part ≡ None
stays_shut p q [] each shut = refl
stays_shut p q (s ∷ part) each shut =
    let step = none_step (p s) s (find p part) shut in
    rw (each s step.0) (stays_shut p q part each step.1)
