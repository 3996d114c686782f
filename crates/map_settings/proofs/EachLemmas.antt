-- What comes of each element, an element at a time.
use Rattle.std.proofs.Common.{◌≡◌, ◌≢◌, ℕ, List, [], ◌∷◌, ◌++◌, length, Option, Some, None, option_map, suc, refl, sym, ap, ◌∙◌, append_assoc, append-nil}
use Rattle.std.proofs.lemmas.Option.{same_Some, none-some}
use Rattle.map_settings.specs.Values.{of_each, in_front, weights_in}

-- what was found, in front of what comes of the rest
abbrev pub with_rest : {B : Type 0} → List B → Option (List B) → Option (List B)
with_rest done rest = option_map (λ ys. done ++ ys) rest

with_rest-more : {B : Type 0} (done : List B) (y : B) (rest : Option (List B))
    → with_rest (done ++ y ∷ []) rest ≡ with_rest done (in_front (Some y) rest)
with_rest-more done y None = refl
with_rest-more done y (Some ys) = ap Some (append_assoc done (y ∷ []) ys)

-- one more is found
pub of_each-more : {A B : Type 0} (f : A → Option B) (done : List B) (x : A) (y : B) (rest : List A) → f x ≡ Some y
    → with_rest (done ++ y ∷ []) (of_each f rest) ≡ with_rest done (of_each f (x ∷ rest))
of_each-more f done x y rest found = rw found (with_rest-more done y (of_each f rest))

-- nothing comes of one
pub of_each-stops : {A B : Type 0} (f : A → Option B) (done : List B) (x : A) (rest : List A) → f x ≡ None
    → with_rest done (of_each f (x ∷ rest)) ≡ None
of_each-stops f done x rest none = rw none refl

-- all are found
pub of_each-ends : {A B : Type 0} (f : A → Option B) (done : List B) → with_rest done (of_each f []) ≡ Some done
of_each-ends f done = ap Some (append-nil done)

-- as many are found as there are
in_front-length : {B : Type 0} (o : Option B) (rest : Option (List B)) (ys : List B) (n : ℕ)
    → in_front o rest ≡ Some ys → ((zs : List B) → rest ≡ Some zs → length zs ≡ n) → length ys ≡ suc n
in_front-length None rest ys n e h = absurd (none-some _ e)
in_front-length (Some y) None ys n e h = absurd (none-some _ e)
in_front-length (Some y) (Some zs) ys n e h = sym (ap length (same_Some _ _ e)) ∙ ap suc (h zs refl)

found_length : {A B : Type 0} (f : A → Option B) (xs : List A) (ys : List B) → of_each f xs ≡ Some ys → length ys ≡ length xs
found_length f [] ys e = ap length (sym (same_Some _ _ e))
found_length f (x ∷ xs) ys e = in_front-length (f x) (of_each f xs) ys (length xs) e (λ zs found. found_length f xs zs found)

-- a list of another length makes no weights
other_length : (xs : List ℕ) → length xs ≢ 3 → weights_in (Some xs) ≡ None
other_length [] other = refl
other_length (a ∷ []) other = refl
other_length (a ∷ b ∷ []) other = refl
other_length (a ∷ b ∷ c ∷ []) other = absurd (other refl)
other_length (a ∷ b ∷ c ∷ d ∷ rest) other = refl

no_weights : (o : Option (List ℕ)) → ((ys : List ℕ) → o ≡ Some ys → length ys ≢ 3) → weights_in o ≡ None
no_weights None other = refl
no_weights (Some ys) other = other_length ys (other ys refl)

-- not three values make no weights
pub not_three : {A : Type 0} (f : A → Option ℕ) (xs : List A) → length xs ≢ 3 → weights_in (of_each f xs) ≡ None
not_three f xs other = no_weights (of_each f xs) (λ ys e. λ three. other (sym (found_length f xs ys e) ∙ three))

-- the parts of what is found
pub in_front-parts : {B : Type 0} (o : Option B) (rest : Option (List B)) (ys : List B) → in_front o rest ≡ Some ys
    → (y : B) × (zs : List B) × (o ≡ Some y) × (rest ≡ Some zs) × (ys ≡ y ∷ zs)
in_front-parts None rest ys e = absurd (none-some _ e)
in_front-parts (Some y) None ys e = absurd (none-some _ e)
in_front-parts (Some y) (Some zs) ys e = (y, zs, refl, refl, sym (same_Some _ _ e))
