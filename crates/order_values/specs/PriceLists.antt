-- Prices by the number of their term.
use Rattle.std.specs.Prelude.{ℕ, ℤ, pos, ◌<◌, ◌==◌, List, [], ◌∷◌, if◌then◌else◌}

-- the numbers of the terms rise strictly
abbrev pub AreRisingPrices : List (ℕ × ℤ) → Type 0
AreRisingPrices [] = Unit {0}
AreRisingPrices (p ∷ []) = Unit {0}
AreRisingPrices (p ∷ q ∷ rest) = (p.0 < q.0) × AreRisingPrices (q ∷ rest)

-- the price of the term of this number, 0 where it has none
abbrev pub price_at : List (ℕ × ℤ) → ℕ → ℤ
price_at [] k = pos 0
price_at (q ∷ prices) k = if q.0 == k then q.1 else price_at prices k
