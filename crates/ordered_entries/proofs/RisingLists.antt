-- Lists by rising numbers hold what the lists hold.
use Rattle.std.proofs.Common.{◌≡◌, ℕ, suc, Bool, true, false, cond, ltb, List, [], ◌∷◌, All, length, refl, ap, ◌∙◌}
use Rattle.std.proofs.lemmas.List.Elements.{All-nil, All-cons, All-head, All-tail}
use Rattle.ordered_entries.specs.Rising.{with_one, by_rising}

module _ {A : Type 0} (number : A → ℕ) where
  length-with_one : (x : A) (ys : List A) → length (with_one number x ys) ≡ suc (length ys)
  length-with_one x [] = refl
  length-with_one x (y ∷ ys) = by (ltb (number y) (number x)) (length-with_one x ys)
    where
      by : (b : Bool) → length (with_one number x ys) ≡ suc (length ys) → length (cond b (y ∷ with_one number x ys) (x ∷ y ∷ ys)) ≡ suc (suc (length ys))
      by true rest = ap suc rest
      by false rest = refl

  pub length-by_rising : (xs : List A) → length (by_rising number xs) ≡ length xs
  length-by_rising [] = refl
  length-by_rising (x ∷ xs) = length-with_one x (by_rising number xs) ∙ ap suc (length-by_rising xs)

  module _ (P : A → Type 0) where
    all-with_one : (x : A) (ys : List A) → P x → All P ys → All P (with_one number x ys)
    all-with_one x [] here all = All-cons P x [] here all
    all-with_one x (y ∷ ys) here all = by (ltb (number y) (number x)) (all-with_one x ys here (All-tail P y ys all))
      where
        by : (b : Bool) → All P (with_one number x ys) → All P (cond b (y ∷ with_one number x ys) (x ∷ y ∷ ys))
        by true rest = All-cons P y (with_one number x ys) (All-head P y ys all) rest
        by false rest = All-cons P x (y ∷ ys) here all

    pub all-by_rising : (xs : List A) → All P xs → All P (by_rising number xs)
    all-by_rising [] all = All-nil P
    all-by_rising (x ∷ xs) all = all-with_one x (by_rising number xs) (All-head P x xs all) (all-by_rising xs (All-tail P x xs all))
