-- An edge that is looked for among near points alone.
use Rattle.std.specs.Prelude.{◌≡◌, ◌⊎◌, ℕ, Bool, ◌==◌, not, ◌&&◌, List, Contains}
use Rattle.std.specs.List.{list_any}
use Rattle.map_base.specs.declared.point.Point.{Point}
use Rattle.track_net.specs.Nets.{parts_them}

-- i and j are two, and none of the candidates parts them
abbrev pub is_undivided : List Point → List ℕ → ℕ → ℕ → Bool
is_undivided ps candidates i j = not (i == j) && not (list_any (parts_them ps i j) candidates)

-- a number is one of the candidates, or i
abbrev pub IsOneOf : List ℕ → ℕ → ℕ → Type 0
IsOneOf candidates i k = (k ≡ i) ⊎ Contains candidates k
