-- What holds of printed names.
use Rattle.std.specs.Prelude.{ℕ, ◌≡◌, ◌&&◌, not, Bool, true, false, List, [], ◌∷◌, All, Contains}
use Rattle.std.specs.List.{list_all}
use Rattle.poster_plan.specs.declared.plan.Plan.{Plan}
use Rattle.poster_plan.specs.declared.place.Place.{Place}
use Rattle.poster_plan.specs.declared.layout.Step.{Step}
use Rattle.poster_plan.specs.declared.layout.Step.TheVariants.{Over}
use Rattle.poster_plan.specs.declared.layout.Printed.{Printed}
use Rattle.poster_plan.specs.Places.{places_in}
use Rattle.poster_plan.specs.Placing.{in_small, is_beside, is_free, mark_numbered, meets_other, meets_printed, printed_shape, Placing}

-- no two of these names meet
abbrev pub are_apart : ℕ → Plan → List Printed → Bool
are_apart u plan [] = true
are_apart u plan (p ∷ ps) = not (meets_printed u plan ps (printed_shape u plan p)) && are_apart u plan ps

-- a printed name keeps away from all other stations, and from lines as its step asks for it
pub record IsAtHome (u : ℕ) (plan : Plan) (p : Printed) : Type 0 where
  pub stations : meets_other u plan (mark_numbered plan.marks p.mark).node.0 (printed_shape u plan p) ≡ false
  pub lines : is_beside u plan p.step (printed_shape u plan p) ≡ true

-- none of the places that a step tries is free for a name that it left
abbrev pub HasNoPlace : ℕ → Plan → Step → List Printed → ℕ → Type 0
HasNoPlace u plan z printed i = list_all (λ (p : Place). not (is_free u plan printed z i p)) (places_in z (mark_numbered plan.marks i).level) ≡ true

abbrev pub AreTaken : ℕ → Plan → Step → Placing → Type 0
AreTaken u plan z placing = All (HasNoPlace u plan z placing.printed) placing.left

-- a name lies over lines only where the step before left it
abbrev pub IsOverOnlyLast : ℕ → Plan → Printed → Type 0
IsOverOnlyLast u plan p = p.step ≡ Over → Contains (in_small u plan).left p.mark
