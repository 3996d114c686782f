use Rattle.std.proofs.Common.{◌∙◌, ◌∷◌, ◌++◌, [], List, ℕ, ap}
use Rattle.sequence_tables.proofs.PlaceRunLemmas.{place_in_last, place_in_next}
use Rattle.sequence_tables.proofs.places.Places.push.Goals as goal

pub returns-in-Some : goal.returns-in-Some
returns-in-Some c =
    place_in_last c.self.inside.runs.items c.self.inside.last c.in-Some.long c.args.place c.in-Some.ensures ∙ ap (λ (ps : List ℕ). ps ++ c.args.place ∷ []) c.self.view_is

pub returns : goal.returns
returns c =
    place_in_next c.self.inside.runs.items _ c.self.inside.last c.args.place c.in_ok-push.ensures.items ∙ ap (λ (ps : List ℕ). ps ++ c.args.place ∷ []) c.self.view_is
