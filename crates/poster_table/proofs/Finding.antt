-- The first of a list that passes a test, and how many do, one after another.
use Rattle.std.proofs.Common.{◌≡◌, ℕ, ◌+◌, ◌<◌, ◌≤◌, Bool, true, false, cond, List, length, get_or, take, drop, Some, refl, ap, sym, ◌∙◌}
use Rattle.std.specs.List.{find, list_any}
use Rattle.std.proofs.lemmas.Bool.{or_from}
use Rattle.std.proofs.lemmas.List.{drop_more, take_all}
use Rattle.std.proofs.lemmas.List.Folds.{list_any_at, list_any_more}

pub find_past : {X : Type 0} (f : X → Bool) (xs : List X) (i : ℕ) (d : X) → i < length xs → f (get_or xs i d) ≡ false → find f (drop (i + 1) xs) ≡ find f (drop i xs)
find_past {X} f xs i d low e = sym (ap (find f) (drop_more xs i d low) ∙ ap (λ (b : Bool). cond b (Some (get_or xs i d)) (find f (drop (i + 1) xs))) e)

pub find_here : {X : Type 0} (f : X → Bool) (xs : List X) (i : ℕ) (d : X) → i < length xs → f (get_or xs i d) ≡ true → find f (drop i xs) ≡ Some (get_or xs i d)
find_here {X} f xs i d low e = ap (find f) (drop_more xs i d low) ∙ ap (λ (b : Bool). cond b (Some (get_or xs i d)) (find f (drop (i + 1) xs))) e

-- none of those so far passes, the next one does, none does
pub any_past : {X : Type 0} (f : X → Bool) (xs : List X) (i : ℕ) (d : X) → i < length xs → f (get_or xs i d) ≡ false → list_any f (take i xs) ≡ false → list_any f (take (i + 1) xs) ≡ false
any_past f xs i d low e so_far = list_any_more f xs i d low ∙ or_from _ _ so_far e

pub any_here : {X : Type 0} (f : X → Bool) (xs : List X) (i : ℕ) (d : X) → i < length xs → f (get_or xs i d) ≡ true → true ≡ list_any f xs
any_here f xs i d low e = sym (list_any_at f xs i d low e)

pub any_none : {X : Type 0} (f : X → Bool) (xs : List X) (i : ℕ) → length xs ≤ i → list_any f (take i xs) ≡ false → false ≡ list_any f xs
any_none f xs i all so_far = sym (sym (ap (list_any f) (take_all i xs all)) ∙ so_far)

-- two tests that pass together are one
pub same_tests : (a b : Bool) → (a ≡ true → b ≡ true) → (b ≡ true → a ≡ true) → a ≡ b
same_tests true b there back = sym (there refl)
same_tests false true there back = back refl
same_tests false false there back = refl
