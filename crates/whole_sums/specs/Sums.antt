-- Sums of whole numbers of either sign.
use Rattle.std.specs.Prelude.{List, [], ◌∷◌}
use Rattle.std.specs.Prelude.{ℤ, pos, ◌+ℤ◌}

-- the sum over these
abbrev pub int_sum : {A : Type 0} → (A → ℤ) → List A → ℤ
int_sum f [] = pos 0
int_sum f (x ∷ xs) = f x +ℤ int_sum f xs
