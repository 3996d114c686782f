-- A list with the element of an id changed: it is changed at the place of that id, where ids are distinct.
use Rattle.std.proofs.Common.{◌≡◌, ℕ, suc, ◌+◌, ◌<◌, ◌≤◌, Bool, true, false, cond, not, ltb, List, [], ◌∷◌, length, map, All, get_or, Some, None, bytes_eq, refl, ap, ◌∙◌, arith, if◌then◌else◌}
use Rattle.std.proofs.Math.ListN.{set}
use Rattle.std.specs.List.{IsDistinct, AllByRecursion, position_or_len}
use Rattle.std.specs.Cmp.Lexicographic.{nat_list_eq_equiv}
use Rattle.std.proofs.lemmas.Bool.{ltb-true, ltb-false}
use Rattle.std.proofs.lemmas.List.{length-map}
use Rattle.std.proofs.lemmas.List.Elements.{All-nil, All-cons, All-head, All-tail}
use Rattle.table_rows.specs.Ids.{place_among}
use Rattle.map_edits.specs.Effects.{at_id}

-- the place of the first element with an id, or the length
abbrev pub id_place : {A : Type 0} → (A → List ℕ) → List ℕ → List A → ℕ
id_place id_of id xs = position_or_len (bytes_eq id) (map id_of xs)

-- elements with other ids stay
others_stay : {A : Type 0} (id_of : A → List ℕ) (change : A → A) (id own : List ℕ) (xs : List A) → bytes_eq id own ≡ true → AllByRecursion (λ y. bytes_eq own y ≡ false) (map id_of xs)
    → at_id id_of id change xs ≡ xs
others_stay id_of change id own [] same apart = refl
others_stay id_of change id own (x ∷ xs) same apart =
    let other : bytes_eq id (id_of x) ≡ false = nat_list_eq_equiv.congr id own (id_of x) same ∙ apart.0 in
    ap (λ b. (if b then change x else x) ∷ at_id id_of id change xs) other ∙ ap (λ ys. x ∷ ys) (others_stay id_of change id own xs same apart.1)

-- nothing is changed where no element has the id
not_there : {A : Type 0} (id_of : A → List ℕ) (change : A → A) (id : List ℕ) (xs : List A) → length xs ≤ id_place id_of id xs → at_id id_of id change xs ≡ xs
not_there id_of change id [] past = refl
not_there id_of change id (x ∷ xs) past = by (bytes_eq id (id_of x)) past (λ p. not_there id_of change id xs p)
  where
    by : (b : Bool) → suc (length xs) ≤ cond (not b) (1 + id_place id_of id xs) 0 → (length xs ≤ id_place id_of id xs → at_id id_of id change xs ≡ xs)
        → (if b then change x else x) ∷ at_id id_of id change xs ≡ x ∷ xs
    by true past later = absurd (omega arith)
    by false past later = ap (λ ys. x ∷ ys) (later (omega arith))

-- the element with the id is changed
there : {A : Type 0} (id_of : A → List ℕ) (change : A → A) (id : List ℕ) (xs : List A) (d : A) → id_place id_of id xs < length xs → IsDistinct bytes_eq (map id_of xs)
    → at_id id_of id change xs ≡ set xs (id_place id_of id xs) (change (get_or xs (id_place id_of id xs) d))
unfolding IsDistinct
there id_of change id [] d low distinct = absurd (omega arith)
there id_of change id (x ∷ xs) d low distinct = by (bytes_eq id (id_of x)) refl low distinct.0 (λ l. there id_of change id xs d l distinct.1)
  where
    by : (b : Bool) → bytes_eq id (id_of x) ≡ b → cond (not b) (1 + id_place id_of id xs) 0 < suc (length xs) → AllByRecursion (λ y. bytes_eq (id_of x) y ≡ false) (map id_of xs)
        → (id_place id_of id xs < length xs → at_id id_of id change xs ≡ set xs (id_place id_of id xs) (change (get_or xs (id_place id_of id xs) d)))
        → (if b then change x else x) ∷ at_id id_of id change xs
        ≡ set (x ∷ xs) (cond (not b) (1 + id_place id_of id xs) 0) (change (get_or (x ∷ xs) (cond (not b) (1 + id_place id_of id xs) 0) d))
    by true same low apart later = ap (λ ys. change x ∷ ys) (others_stay id_of change id (id_of x) xs same apart)
    by false other low apart later =
        let next : suc (id_place id_of id xs) ≡ 1 + id_place id_of id xs = omega arith in
        ap (λ ys. x ∷ ys) (later (omega arith)) ∙ ap (λ (k : ℕ). set (x ∷ xs) k (change (get_or (x ∷ xs) k d))) next

-- the same by the place of the id among the ids
pub changed_there : {A : Type 0} (id_of : A → List ℕ) (change : A → A) (id : List ℕ) (xs : List A) (place : ℕ) (d : A) → place_among (map id_of xs) id ≡ Some place → IsDistinct bytes_eq (map id_of xs)
    → at_id id_of id change xs ≡ set xs place (change (get_or xs place d))
changed_there id_of change id xs place d found distinct = by (ltb (id_place id_of id xs) (length (map id_of xs))) refl found
  where
    by : (b : Bool) → ltb (id_place id_of id xs) (length (map id_of xs)) ≡ b → cond b (Some (id_place id_of id xs)) None ≡ Some place → at_id id_of id change xs ≡ set xs place (change (get_or xs place d))
    by true e is =
        let same : id_place id_of id xs ≡ place = cc in
        let low : id_place id_of id xs < length xs = omega (arith, ltb-true (id_place id_of id xs) (length (map id_of xs)) e, length-map xs id_of) in
        there id_of change id xs d low distinct ∙ ap (λ (k : ℕ). set xs k (change (get_or xs k d))) same
    by false e is = absurd cc

pub changed_nowhere : {A : Type 0} (id_of : A → List ℕ) (change : A → A) (id : List ℕ) (xs : List A) → place_among (map id_of xs) id ≡ None → at_id id_of id change xs ≡ xs
changed_nowhere id_of change id xs none = by (ltb (id_place id_of id xs) (length (map id_of xs))) refl none
  where
    by : (b : Bool) → ltb (id_place id_of id xs) (length (map id_of xs)) ≡ b → cond b (Some (id_place id_of id xs)) None ≡ None → at_id id_of id change xs ≡ xs
    by true e is = absurd cc
    by false e is = not_there id_of change id xs (omega (arith, ltb-false (id_place id_of id xs) (length (map id_of xs)) e, length-map xs id_of))

-- a change that keeps ids
pub ids_stay : {A : Type 0} (id_of : A → List ℕ) (change : A → A) (id : List ℕ) (xs : List A) → ((x : A) → id_of (change x) ≡ id_of x) → map id_of (at_id id_of id change xs) ≡ map id_of xs
ids_stay id_of change id [] keeps = refl
ids_stay id_of change id (x ∷ xs) keeps = by (bytes_eq id (id_of x)) (ids_stay id_of change id xs keeps)
  where
    by : (b : Bool) → map id_of (at_id id_of id change xs) ≡ map id_of xs → id_of (if b then change x else x) ∷ map id_of (at_id id_of id change xs) ≡ id_of x ∷ map id_of xs
    by true rest = ap (λ i. i ∷ map id_of (at_id id_of id change xs)) (keeps x) ∙ ap (λ ids. id_of x ∷ ids) rest
    by false rest = ap (λ ids. id_of x ∷ ids) rest

-- a change that keeps a fact
pub all_stay : {A : Type 0} (P : A → Type 0) (id_of : A → List ℕ) (change : A → A) (id : List ℕ) (xs : List A) → ((x : A) → P x → P (change x)) → All P xs → All P (at_id id_of id change xs)
all_stay P id_of change id [] keeps all = All-nil P
all_stay P id_of change id (x ∷ xs) keeps all =
    All-cons P _ _ (by (bytes_eq id (id_of x)) (All-head P x xs all)) (all_stay P id_of change id xs keeps (All-tail P x xs all))
  where
    by : (b : Bool) → P x → P (if b then change x else x)
    by true here = keeps x here
    by false here = here
