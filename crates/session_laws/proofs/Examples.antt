-- Lines before a draw, computed.
use Rattle.std.proofs.Common.{◌≡◌, refl, ℕ, List, [], ◌∷◌, codes}
use Rattle.session_laws.specs.Before.{edits_before}

abbrev script : List (List ℕ)
script = codes "reset" ∷ codes "draw" ∷ codes "undo" ∷ codes "draw" ∷ codes "reset" ∷ []

before_first : edits_before 0 script ≡ codes "reset" ∷ []
before_first = refl

before_second : edits_before 1 script ≡ codes "reset" ∷ codes "undo" ∷ []
before_second = refl
