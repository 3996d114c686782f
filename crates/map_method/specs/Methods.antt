-- How a map is found, and in which range each setting of it lies.
use Rattle.std.specs.Prelude.{ℕ, ◌≤◌, ◌⊎◌, ◌≡◌}
use Rattle.map_method.specs.declared.search.Search.{Search}
use Rattle.map_method.specs.declared.claim.Claim.{Claim}
use Rattle.map_method.specs.declared.spread.Spread.{Spread}
use Rattle.map_method.specs.declared.spread.Spread.TheVariants.{Percent, Auto}

-- how a map is found, as contracts see it
pub record MethodChoices : Type 0 where
  pub search : Search
  pub claim : Claim
  pub spread : Spread
  pub coarsest : ℕ
  pub finest : ℕ
  pub straight : ℕ
  pub moves : ℕ

-- at most the whole way
abbrev pub IsSpread : Spread → Type 0
IsSpread (Percent percent) = percent ≤ 100
IsSpread Auto = Unit {0}

-- how fine the coarsest grid may be
abbrev pub IsCoarsest : ℕ → Type 0
IsCoarsest coarsest = (coarsest ≡ 1) ⊎ (coarsest ≡ 2) ⊎ (coarsest ≡ 4)

-- how fine the finest grid may be
abbrev pub IsFinest : ℕ → Type 0
IsFinest finest = (finest ≡ 4) ⊎ (finest ≡ 8) ⊎ (finest ≡ 16)

-- each setting is in its range
pub record IsMethod (method : MethodChoices) : Type 0 where
  pub spread : IsSpread method.spread
  pub coarsest : IsCoarsest method.coarsest
  pub finest : IsFinest method.finest
  pub straight : method.straight ≤ 10000
  pub moves : method.moves ≤ 10000
