-- The least of a list.
use Rattle.std.specs.Prelude.{ℕ, Bool, true, false, nat_lt, ◌==◌, ◌||◌, ◌&&◌, List, [], ◌∷◌, if◌then◌else◌}

-- the one of two that is no worse
abbrev pub chosen : {A : Type 0} → (A → A → Bool) → A → A → A
chosen is_no_worse a b = if is_no_worse a b then a else b

-- one of a list than which none is better, and another where the list is empty
abbrev pub least_by : {A : Type 0} → (A → A → Bool) → A → List A → A
least_by is_no_worse other [] = other
least_by is_no_worse other (a ∷ []) = a
least_by is_no_worse other (a ∷ b ∷ rest) = chosen is_no_worse a (least_by is_no_worse other (b ∷ rest))

-- of two lists of numbers the first is not after the second in the order of dictionaries
abbrev pub is_not_after : List ℕ → List ℕ → Bool
is_not_after [] others = true
is_not_after (l ∷ ls) [] = false
is_not_after (l ∷ ls) (m ∷ ms) = nat_lt l m || ((l == m) && is_not_after ls ms)
