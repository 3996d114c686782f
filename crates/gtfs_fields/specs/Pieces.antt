-- Lists kept end to end in one list, with the place where each of them ends.
use Rattle.std.specs.Prelude.{◌≡◌, ℕ, ◌≤◌, ◌-◌, List, [], ◌∷◌, take, drop}

-- the pieces that end at these places, after a start
abbrev pub cut : {A : Type 0} → ℕ → List ℕ → List A → List (List A)
cut start [] items = []
cut start (end ∷ ends) items = take (end - start) (drop start items) ∷ cut end ends items

-- the places do not fall, and the last of them is the size
abbrev pub Covers : ℕ → List ℕ → ℕ → Type 0
Covers start [] size = start ≡ size
Covers start (end ∷ ends) size = (start ≤ end) × Covers end ends size
