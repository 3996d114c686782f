-- The elements of a list, each once.
use Rattle.std.specs.Prelude.{Bool, not, List, [], ◌∷◌, ◌++◌, filter, if◌then◌else◌}
use Rattle.std.specs.List.{list_any}

module _ {A : Type 0} (same : A → A → Bool) where
  -- the elements of a list that no earlier one is the same as
  abbrev pub firsts : List A → List A
  firsts [] = []
  firsts (x ∷ xs) = x ∷ filter (λ y. not (same x y)) (firsts xs)

  -- elements that were seen, and one more unless it was
  abbrev pub with_new : List A → A → List A
  with_new seen x = if list_any (same x) seen then seen else seen ++ x ∷ []

  -- elements that were seen, and behind them each further one that was not, once
  abbrev pub firsts_behind : List A → List A → List A
  firsts_behind seen [] = seen
  firsts_behind seen (x ∷ xs) = firsts_behind (with_new seen x) xs
