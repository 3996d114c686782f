-- How great the numbers of rounds are.
use Rattle.std.specs.Prelude.{ℕ, ◌≤◌, List, map, unsigned_abs}
use Rattle.std.specs.Prelude.{Vec}
use Rattle.std.specs.Global.{Global}
use Rattle.std.specs.Prelude.{ℤ}
use Rattle.dual_ascent.specs.declared.pair_average.PairAverage.{PairAverage}
use Rattle.dual_ascent.specs.Averages.{always}

-- the average is one
pub record IsAverage (x : PairAverage) : Type 0 where
  pub swapped : x.swapped ≤ always
  pub beside : x.beside ≤ always

-- how far a direction goes
abbrev pub most_direction : ℕ
most_direction = 512

abbrev pub IsDirection : ℤ → Type 0
IsDirection y = unsigned_abs y ≤ most_direction

-- how great a price may be
abbrev pub IsPrice : ℤ → Type 0
IsPrice y = unsigned_abs y ≤ 256000000

-- averages as they lie in memory
abbrev pub averages_of : List (Vec PairAverage Global) → List (List PairAverage)
averages_of averages = map (λ (v : Vec PairAverage Global). v.items) averages
