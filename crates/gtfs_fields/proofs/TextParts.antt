-- The first place of a text that passes a test.
use Rattle.std.proofs.Common.{◌≡◌, ℕ, ◌+◌, ◌<◌, ◌≤◌, Bool, true, false, cond, not, ◌||◌, List, [], ◌∷◌, length, get_or, refl, sym, arith}
use Rattle.std.specs.List.{position_or_len, list_any}
use Rattle.std.proofs.lemmas.List.Sums.{position_or_len_is, prefix_len-le-length}

pub place_found : (p : ℕ → Bool) (text : List ℕ) (place : ℕ) → place < length text → ((k : ℕ) → k < place → p (get_or text k 0) ≡ false) → p (get_or text place 0) ≡ true
    → place ≡ position_or_len p text
place_found p text place within before here = sym (position_or_len_is p text place 0 (omega arith) before (λ _. here))

pub place_none : (p : ℕ → Bool) (text : List ℕ) (place : ℕ) → length text ≤ place → ((k : ℕ) → k < place → p (get_or text k 0) ≡ false) → length text ≡ position_or_len p text
place_none p text place past before = sym (position_or_len_is p text (length text) 0 (omega arith) (λ k low. before k (omega arith)) (λ low. absurd (omega arith)))

-- a place within the text is one that passes, and past it there is none
pub list_any-place : (p : ℕ → Bool) (text : List ℕ) → position_or_len p text < length text → list_any p text ≡ true
list_any-place p [] within = absurd (omega arith)
list_any-place p (c ∷ cs) within = by (p c) within (list_any-place p cs)
  where
    by : (b : Bool) → cond (not b) (1 + position_or_len p cs) 0 < length (c ∷ cs) → (position_or_len p cs < length cs → list_any p cs ≡ true) → (b || list_any p cs) ≡ true
    by true within later = refl
    by false within later = later (omega arith)

pub list_any-none : (p : ℕ → Bool) (text : List ℕ) → position_or_len p text ≡ length text → list_any p text ≡ false
list_any-none p [] past = refl
list_any-none p (c ∷ cs) past = by (p c) past (list_any-none p cs)
  where
    by : (b : Bool) → cond (not b) (1 + position_or_len p cs) 0 ≡ length (c ∷ cs) → (position_or_len p cs ≡ length cs → list_any p cs ≡ false) → (b || list_any p cs) ≡ false
    by true past later = absurd (omega arith)
    by false past later = later (omega arith)

pub place-le : (p : ℕ → Bool) (text : List ℕ) (place : ℕ) → place ≡ position_or_len p text → place ≤ length text
place-le p text place is = omega (arith, prefix_len-le-length (λ c. not (p c)) text)
