-- What stands at the places of lists.
use Rattle.std.proofs.Common.{◌≡◌, ℕ, zero, suc, ◌<◌, Bool, true, List, [], ◌∷◌, length, get_or, slice_get, Some, sym, refl, ap, subst, arith, inl, inr}
use Rattle.std.proofs.lemmas.Bool.{and_parts}
use Rattle.std.specs.List.{list_all}
use Rattle.map_base.specs.declared.ids.SegId.{SegId}
use Rattle.octi_grid.proofs.Members.{In}

-- a segment by its number
abbrev pub seg_at : ℕ → SegId
seg_at n = record { 0 = n }

pub same_seg : (s t : SegId) → s.0 ≡ t.0 → s ≡ t
same_seg s t e = ap seg_at e

-- what stands at a place is in the list
pub in_at : {X : Type 0} (xs : List X) (i : ℕ) (d : X) → i < length xs → In (get_or xs i d) xs
in_at [] i d h = absurd (omega arith)
in_at (x ∷ xs) zero d h = inl refl
in_at (x ∷ xs) (suc i) d h = inr (in_at xs i d (omega arith))

-- and what is in the list stands at a place
pub record Place {X : Type 0} (xs : List X) (x : X) : Type 0 where
  pub at : ℕ
  pub below : at < length xs
  pub there : slice_get xs at ≡ Some x

pub place_of : {X : Type 0} (xs : List X) (x : X) → In x xs → Place xs x
place_of [] x m = absurd m
place_of (y ∷ ys) x (inl e) = record { at = 0; below = omega arith; there = ap Some (sym e) }
place_of (y ∷ ys) x (inr m) = let p = place_of ys x m in record { at = suc p.at; below = omega (arith, p.below); there = p.there }

pub place_below : {X : Type 0} (xs : List X) (i : ℕ) (x : X) → slice_get xs i ≡ Some x → i < length xs
place_below [] i x e = cc
place_below (y ∷ ys) zero x e = omega arith
place_below (y ∷ ys) (suc i) x e = omega (arith, place_below ys i x e)

-- what holds of all holds at a place
pub all_place : {X : Type 0} (test : X → Bool) (xs : List X) (i : ℕ) (d : X) → list_all test xs ≡ true → i < length xs → test (get_or xs i d) ≡ true
all_place test [] i d e h = absurd (omega arith)
all_place test (x ∷ xs) zero d e h = (and_parts _ _ e).0
all_place test (x ∷ xs) (suc i) d e h = all_place test xs i d (and_parts _ _ e).1 (omega arith)

-- what holds at all places holds of what is in the list
pub all_in : {X : Type 0} (P : X → Type 0) (xs : List X) (x : X) → ((k : ℕ) (d : X) → k < length xs → P (get_or xs k d)) → In x xs → P x
all_in P [] x all m = absurd m
all_in P (y ∷ ys) x all (inl e) = subst P (sym e) (all 0 y (omega arith))
all_in P (y ∷ ys) x all (inr m) = all_in P ys x (λ k d h. all (suc k) d (omega arith)) m
