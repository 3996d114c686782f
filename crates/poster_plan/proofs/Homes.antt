-- Printed names keep apart, to their stations, and off lines.
use Rattle.std.proofs.Common.{◌≡◌, ℕ, Bool, true, false, not, List, [], Some, refl}
use Rattle.std.specs.Prelude.{All}
use Rattle.std.proofs.lemmas.Bool.{and_parts}
use Rattle.std.proofs.lemmas.List.Elements.{All-nil, All-push}
use Rattle.poster_plan.specs.declared.plan.Plan.{Plan}
use Rattle.poster_plan.specs.declared.place.Place.{Place}
use Rattle.poster_plan.specs.declared.layout.Step.{Step}
use Rattle.poster_plan.specs.declared.layout.Step.TheVariants.{Full, Small, Over}
use Rattle.poster_plan.specs.declared.layout.Printed.{Printed}
use Rattle.poster_plan.specs.Placing.{in_full, in_order, in_small, is_beside, is_free, mark_numbered, meets_other, meets_printed, name_shape, place_names, printed_names, with_place, Placing}
use Rattle.poster_plan.specs.Laws.{are_apart, IsAtHome}
use Rattle.poster_plan.proofs.Meetings.{apart_more}
use Rattle.poster_plan.proofs.Folds.{AnyMark, any_marks, placings_keep}

not_true : (b : Bool) → not b ≡ true → b ≡ false
not_true true e = absurd cc
not_true false e = refl

-- what is known of a place that is free
record IsFreeThere (u : ℕ) (plan : Plan) (printed : List Printed) (z : Step) (i : ℕ) (p : Place) : Type 0 where
  names : meets_printed u plan printed (name_shape u plan z i p) ≡ false
  stations : meets_other u plan (mark_numbered plan.marks i).node.0 (name_shape u plan z i p) ≡ false
  lines : is_beside u plan z (name_shape u plan z i p) ≡ true

free_there : (u : ℕ) (plan : Plan) (printed : List Printed) (z : Step) (i : ℕ) (p : Place) → is_free u plan printed z i p ≡ true → IsFreeThere u plan printed z i p
free_there u plan printed z i p e =
    let outer = and_parts _ _ e in
    let inner = and_parts _ _ outer.0 in
    record { names = not_true _ inner.0; stations = not_true _ inner.1; lines = outer.1 }

-- printed names are apart, and each is at home
pub record AreWell (u : ℕ) (plan : Plan) (printed : List Printed) : Type 0 where
  pub apart : are_apart u plan printed ≡ true
  pub home : All (IsAtHome u plan) printed

step_well : (u : ℕ) (plan : Plan) (z : Step) (marks : List ℕ) (printed : List Printed) → AreWell u plan printed → AreWell u plan (place_names u plan z marks printed).printed
step_well u plan z marks printed h = placings_keep u plan z (λ (s : Placing). AreWell u plan s.printed) AnyMark some (λ so_far i well none. well) marks printed (any_marks marks) h
  where
    some : (so_far : Placing) (i : ℕ) (p : Place) → AnyMark i → AreWell u plan so_far.printed → is_free u plan so_far.printed z i p ≡ true → AreWell u plan (with_place z i (Some p) so_far).printed
    some so_far i p any well free =
        let there = free_there u plan so_far.printed z i p free in
        record {
          apart = apart_more u plan so_far.printed (record { mark = i; step = z; place = p }) well.apart there.names;
          home = All-push (IsAtHome u plan) so_far.printed (record { mark = i; step = z; place = p }) well.home (record { stations = there.stations; lines = there.lines });
        }

none_well : (u : ℕ) (plan : Plan) → AreWell u plan []
none_well u plan = record { apart = refl; home = All-nil (IsAtHome u plan) }

-- all printed names
pub all_well : (u : ℕ) (plan : Plan) → AreWell u plan (printed_names u plan)
all_well u plan =
    step_well u plan Over (in_small u plan).left (in_small u plan).printed
    (step_well u plan Small (in_full u plan).left (in_full u plan).printed (step_well u plan Full (in_order u plan) [] (none_well u plan)))
