-- The elements of a list, each once, as a walk over the list finds them.
use Rattle.std.proofs.Common.{◌≡◌, ◌≤◌, ℕ, suc, Bool, true, false, not, ◌&&◌, ◌||◌, List, [], ◌∷◌, ◌++◌, length, filter, All, bytes_eq, cond, refl, sym, ap, ◌∙◌, append_assoc, true≢false, arith}
use Rattle.std.specs.List.{list_any}
use Rattle.std.proofs.lemmas.List.Elements.{All-head, All-tail, All-cons, All-filter}
use Rattle.std.proofs.lemmas.List.Folds.{list_any-append}
use Rattle.std.proofs.lemmas.Slice.Eq.{bytes_eq-Decides}
use Rattle.table_rows.specs.Firsts.{firsts, with_new, firsts_behind}

-- one test after another is both
filter-both : {A : Type 0} (p q : A → Bool) (xs : List A) → filter p (filter q xs) ≡ filter (λ x. q x && p x) xs
filter-both p q [] = refl
filter-both p q (x ∷ xs) = by (q x) (p x) ∙ ap (λ rest. cond (q x && p x) (x ∷ rest) rest) (filter-both p q xs)
  where
    by : (a b : Bool) → filter p (cond a (x ∷ filter q xs) (filter q xs)) ≡ cond (a && p x) (x ∷ filter p (filter q xs)) (filter p (filter q xs))
    by true b = refl
    by false b = refl

-- equal tests pass the same
filter-same : {A : Type 0} (p q : A → Bool) (xs : List A) → ((x : A) → p x ≡ q x) → filter p xs ≡ filter q xs
filter-same p q xs same = ap (λ test. filter test xs) (λ i x. same x i)

filter-all : {A : Type 0} (xs : List A) → filter (λ x. true) xs ≡ xs
filter-all [] = refl
filter-all (x ∷ xs) = ap (λ rest. x ∷ rest) (filter-all xs)

module _ {A : Type 0} (same : A → A → Bool) (equal : (x y : A) → same x y ≡ true → x ≡ y) where
  symm : (x y : A) → same x y ≡ same y x
  symm x y = by (same x y) (same y x) refl refl
    where
      turned : (u v : A) → same u v ≡ true → same v u ≡ true
      turned u v e = ap (same v) (equal u v e) ∙ sym (ap (λ z. same z v) (equal u v e)) ∙ e

      by : (a b : Bool) → same x y ≡ a → same y x ≡ b → a ≡ b
      by true true e f = refl
      by false false e f = refl
      by true false e f = absurd (true≢false (sym (turned x y e) ∙ f))
      by false true e f = absurd (true≢false (sym (turned y x f) ∙ e))

  is_new : List A → A → Bool
  is_new seen y = not (list_any (same y) seen)

  -- what is the same as an element that was seen was seen
  passed_new : (seen : List A) (x : A) → list_any (same x) seen ≡ true → (y : A) → (not (same x y) && is_new seen y) ≡ is_new seen y
  unfolding is_new
  passed_new seen x met y = by (same x y) refl
    where
      by : (b : Bool) → same x y ≡ b → (not b && is_new seen y) ≡ is_new seen y
      by false e = refl
      by true e = sym (ap (λ z. not (list_any (same z) seen)) (sym (equal x y e)) ∙ ap not met)

  -- new beside one more
  grown_new : (seen : List A) (x y : A) → is_new (seen ++ x ∷ []) y ≡ (not (same x y) && is_new seen y)
  unfolding is_new
  grown_new seen x y = ap not (list_any-append (same y) seen (x ∷ [])) ∙ by (list_any (same y) seen) (same y x) ∙ ap (λ b. not b && is_new seen y) (symm y x)
    where
      by : (a b : Bool) → not (a || (b || false)) ≡ (not b && not a)
      by true true = refl
      by true false = refl
      by false true = refl
      by false false = refl

  behind : (seen xs : List A) → firsts_behind same seen xs ≡ seen ++ filter (is_new seen) (firsts same xs)
  unfolding is_new
  behind seen [] = sym (nothing seen)
    where
      nothing : (ys : List A) → ys ++ [] ≡ ys
      nothing [] = refl
      nothing (y ∷ ys) = ap (λ rest. y ∷ rest) (nothing ys)
  behind seen (x ∷ xs) = by (λ more. behind more xs) (list_any (same x) seen) refl
    where
      both : filter (is_new seen) (filter (λ y. not (same x y)) (firsts same xs)) ≡ filter (λ y. not (same x y) && is_new seen y) (firsts same xs)
      both = filter-both (is_new seen) (λ y. not (same x y)) (firsts same xs)

      by : ((more : List A) → firsts_behind same more xs ≡ more ++ filter (is_new more) (firsts same xs)) → (b : Bool) → list_any (same x) seen ≡ b
          → firsts_behind same (cond b seen (seen ++ x ∷ [])) xs ≡ seen ++ cond (not b) (x ∷ filter (is_new seen) (filter (λ y. not (same x y)) (firsts same xs))) (filter (is_new seen) (filter (λ y. not (same x y)) (firsts same xs)))
      by rest true met =
          rest seen
          ∙ ap (λ last. seen ++ last) (sym (both ∙ filter-same (λ y. not (same x y) && is_new seen y) (is_new seen) (firsts same xs) (passed_new seen x met)))
      by rest false none =
          rest (seen ++ x ∷ [])
          ∙ append_assoc seen (x ∷ []) (filter (is_new (seen ++ x ∷ [])) (firsts same xs))
          ∙ ap (λ last. seen ++ x ∷ last) (filter-same (is_new (seen ++ x ∷ [])) (λ y. not (same x y) && is_new seen y) (firsts same xs) (grown_new seen x) ∙ sym both)

  -- a walk that has seen nothing finds the elements that no earlier one is the same as
  pub firsts_behind-none : (xs : List A) → firsts_behind same [] xs ≡ firsts same xs
  unfolding is_new
  firsts_behind-none xs = behind [] xs ∙ filter-all (firsts same xs)

-- the same at ids
pub first_ids : (ids : List (List ℕ)) → firsts_behind bytes_eq [] ids ≡ firsts bytes_eq ids
first_ids = firsts_behind-none bytes_eq (λ x y same. (bytes_eq-Decides x y).0 same)

-- no more elements pass a test than there are
pub filter-few : {A : Type 0} (test : A → Bool) (xs : List A) → length (filter test xs) ≤ length xs
filter-few test [] = omega arith
filter-few test (x ∷ xs) = by (test x) (filter-few test xs)
  where
    by : (b : Bool) → length (filter test xs) ≤ length xs → length (cond b (x ∷ filter test xs) (filter test xs)) ≤ suc (length xs)
    by true l = omega (arith, l)
    by false l = omega (arith, l)

-- no more elements are found than there are
pub length-firsts : {A : Type 0} (same : A → A → Bool) (xs : List A) → length (firsts same xs) ≤ length xs
length-firsts same [] = omega arith
length-firsts same (x ∷ xs) = let rest = length-firsts same xs in let fewer = filter-few (λ y. not (same x y)) (firsts same xs) in omega (arith, rest, fewer)

-- what holds of all elements holds of those that are found
pub All-firsts : {A : Type 0} (P : A → Type 0) (same : A → A → Bool) (xs : List A) → All P xs → All P (firsts same xs)
All-firsts P same [] all = all
All-firsts P same (x ∷ xs) all =
    All-cons P x (filter (λ y. not (same x y)) (firsts same xs)) (All-head P x xs all)
    (All-filter (λ y. not (same x y)) P (firsts same xs) (All-firsts P same xs (All-tail P x xs all)))
