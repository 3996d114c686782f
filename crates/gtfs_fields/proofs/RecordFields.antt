-- The fields of a record, one after the other.
use Rattle.std.proofs.Common.{◌≡◌, ℕ, zero, suc, ◌+◌, List, [], ◌∷◌, ◌++◌, take, Some, None, refl, ap, add-one, append_assoc}
use Rattle.csv.specs.Records.{field_at}

some_is : {A : Type 0} (x y : A) → Some x ≡ Some y → x ≡ y
some_is x y e = cc

take_field-suc : (fields : List (List ℕ)) (i : ℕ) (x : List ℕ) → Some x ≡ field_at fields i → take (suc i) fields ≡ take i fields ++ x ∷ []
unfolding field_at
take_field-suc [] i x e = absurd cc
take_field-suc (f ∷ fields) zero x e = rw (some_is x f e) refl
take_field-suc (f ∷ fields) (suc i) x e = ap (λ (later : List (List ℕ)). f ∷ later) (take_field-suc fields i x e)

-- the fields up to one that is there, and it
pub take_field : (fields : List (List ℕ)) (i : ℕ) (x : List ℕ) → Some x ≡ field_at fields i → take (i + 1) fields ≡ take i fields ++ x ∷ []
take_field fields i x e = rw add-one (take_field-suc fields i x e)

-- where there is no further field, these are all
pub take_all_fields : (fields : List (List ℕ)) (i : ℕ) → None ≡ field_at fields i → take i fields ≡ fields
unfolding field_at
take_all_fields [] zero e = refl
take_all_fields [] (suc i) e = refl
take_all_fields (f ∷ fields) zero e = absurd cc
take_all_fields (f ∷ fields) (suc i) e = ap (λ (later : List (List ℕ)). f ∷ later) (take_all_fields fields i e)

-- the same after other fields
pub pushed_field : (before now fields : List (List ℕ)) (i : ℕ) (x : List ℕ) → now ≡ before ++ take i fields → Some x ≡ field_at fields i → now ++ x ∷ [] ≡ before ++ take (i + 1) fields
pushed_field before now fields i x so_far e = rw (so_far, take_field fields i x e, append_assoc) refl
