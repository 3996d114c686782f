-- Lines of a segment, none twice: as many as it has are one of its orders.
use Rattle.std.proofs.Common.{◌≡◌, zero, suc, ◌==◌, false, List, [], ◌∷◌, ◌++◌, length, get_or, sym, ap, subst, arith}
use Rattle.std.specs.Prelude.{IsPermutation}
use Rattle.std.specs.List.{All, Contains}
use Rattle.std.proofs.lemmas.Bool.{eqb-false}
use Rattle.std.proofs.lemmas.List.Elements.{All-nil, All-cons, All-head, All-tail}
use Rattle.std.proofs.lemmas.List.Sorted.{IsPermutation-refl, IsPermutation-cons, IsPermutation-middle, IsPermutation-trans, Contains-permutation, length_permutation}
use Rattle.map_base.specs.declared.ids.LineId.{LineId}
use Rattle.order_model.specs.Prefixes.{is_placed, AreApart}
use Rattle.order_model.proofs.Lines.{neither}

parted : (xs : List LineId) (a : LineId) → Contains xs a → (pre : List LineId) × (post : List LineId) × (xs ≡ pre ++ a ∷ post)
parted [] a (k, below, is) = absurd (omega (arith, below))
parted (x ∷ xs) a (zero, below, is) = ([], xs, ap (λ y. y ∷ xs) is)
parted (x ∷ xs) a (suc k, below, is) = let rest = parted xs a (k, omega (arith, below), is) in (x ∷ rest.0, rest.1, ap (λ l. x ∷ l) rest.2)

kept_after : (x a : LineId) (kept : List LineId) → Contains (x ∷ kept) a → (a.0 == x.0) ≡ false → Contains kept a
kept_after x a kept (zero, below, is) h = absurd (eqb-false a.0 x.0 h (ap (λ (l : LineId). l.0) (sym is)))
kept_after x a kept (suc k, below, is) h = (k, omega (arith, below), is)

none_same : (a : LineId) (xs : List LineId) → is_placed xs a ≡ false → All (λ (b : LineId). (b.0 == a.0) ≡ false) xs
none_same a [] h = All-nil (λ (b : LineId). (b.0 == a.0) ≡ false)
none_same a (x ∷ xs) h =
    let both = neither (x.0 == a.0) (is_placed xs a) h in
    All-cons (λ (b : LineId). (b.0 == a.0) ≡ false) x xs both.0 (none_same a xs both.1)

-- the lines of a segment without one of them
abbrev Without : List LineId → LineId → Type 0
Without lines x = (kept : List LineId) × IsPermutation lines (x ∷ kept)

without : (lines : List LineId) (x : LineId) → Contains lines x → Without lines x
without lines x here =
    let at = parted lines x here in
    let kept : List LineId = at.0 ++ at.1 in
    (kept, subst (λ l. IsPermutation l (x ∷ kept)) (sym at.2) (IsPermutation-middle at.0 x at.1))

known_without : (lines : List LineId) (x : LineId) (xs : List LineId) (w : Without lines x) → is_placed xs x ≡ false → All (Contains lines) xs → All (Contains w.0) xs
known_without lines x xs w fresh all k d below =
    kept_after x (get_or xs k d) w.0 (Contains-permutation lines (x ∷ w.0) (get_or xs k d) w.1 (all k d below)) (none_same x xs fresh k d below)

pub apart_order : (xs lines : List LineId) → AreApart xs → All (Contains lines) xs → length xs ≡ length lines → IsPermutation lines xs
apart_order [] [] h all e = IsPermutation-refl []
apart_order [] (l ∷ lines) h all e = absurd (omega (arith, e))
apart_order (x ∷ xs) lines h all e =
    let w = without lines x (All-head (Contains lines) x xs all) in
    IsPermutation-trans lines (x ∷ w.0) (x ∷ xs) w.1
    (IsPermutation-cons x w.0 xs (apart_order xs w.0 h.1 (known_without lines x xs w h.0 (All-tail (Contains lines) x xs all))
    (omega (arith, e, length_permutation lines (x ∷ w.0) w.1))))
