-- Lists by rising numbers.
use Rattle.std.specs.Prelude.{ℕ, List, [], ◌∷◌, if◌then◌else◌, nat_lt}

-- with one more in front of those whose number is not lesser
abbrev pub with_one : {A : Type 0} → (A → ℕ) → A → List A → List A
with_one number x [] = x ∷ []
with_one number x (y ∷ ys) = if nat_lt (number y) (number x) then y ∷ with_one number x ys else x ∷ y ∷ ys

-- a list by rising numbers; those of one number stay in their order
abbrev pub by_rising : {A : Type 0} → (A → ℕ) → List A → List A
by_rising number [] = []
by_rising number (x ∷ xs) = with_one number x (by_rising number xs)
