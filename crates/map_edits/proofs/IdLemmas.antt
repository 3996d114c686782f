-- The ids of elements, noted one at a time.
use Rattle.std.proofs.Common.{◌≡◌, ℕ, zero, suc, ◌+◌, ◌<◌, Bool, false, ◌||◌, List, [], ◌∷◌, ◌++◌, length, map, get_or, take, bytes_eq, refl, sym, ap, subst, ◌∙◌, arith}
use Rattle.std.specs.List.{IsDistinct}
use Rattle.std.specs.Cmp.Lexicographic.{nat_list_eq_equiv}
use Rattle.std.proofs.lemmas.List.{length-map, get_or-map, take_more, map-append}
use Rattle.std.proofs.lemmas.List.Elements.{All-from_recursion}
use Rattle.table_rows.specs.Ids.{is_among}

-- the id of an element is none of the earlier ones
pub new_id : {A : Type 0} (id_of : A → List ℕ) (xs : List A) (i : ℕ) (d : A) → IsDistinct bytes_eq (map id_of xs) → i < length xs → is_among (id_of (get_or xs i d)) (map id_of (take i xs)) ≡ false
unfolding IsDistinct
new_id id_of [] i d distinct low = absurd (omega arith)
new_id id_of (x ∷ xs) zero d distinct low = refl
new_id id_of (x ∷ xs) (suc i) d distinct low =
    let within : i < length xs = omega arith in
    let P : List ℕ → Type 0 = λ y. bytes_eq (id_of x) y ≡ false in
    let apart : bytes_eq (id_of x) (id_of (get_or xs i d)) ≡ false =
    subst P (get_or-map id_of xs i d [] within) (All-from_recursion P (map id_of xs) distinct.0 i [] (omega (arith, within, length-map xs id_of))) in
    let first : bytes_eq (id_of (get_or xs i d)) (id_of x) ≡ false = nat_list_eq_equiv.symm (id_of (get_or xs i d)) (id_of x) ∙ apart in
    ap (λ (b : Bool). b || is_among (id_of (get_or xs i d)) (map id_of (take i xs))) first ∙ new_id id_of xs i d distinct.1 within

-- one id more is noted
pub ids_more : {A : Type 0} (id_of : A → List ℕ) (xs : List A) (i : ℕ) (x : A) (ids new : List (List ℕ)) → i < length xs → x ≡ get_or xs i x → ids ≡ map id_of (take i xs) → new ≡ ids ++ id_of x ∷ []
    → new ≡ map id_of (take (i + 1) xs)
ids_more id_of xs i x ids new low here before pushed =
    pushed
    ∙ ap (λ ys. ys ++ id_of x ∷ []) before
    ∙ ap (λ y. map id_of (take i xs) ++ id_of y ∷ []) here
    ∙ sym (ap (map id_of) (take_more xs i x low) ∙ map-append id_of (take i xs) (get_or xs i x ∷ []))
