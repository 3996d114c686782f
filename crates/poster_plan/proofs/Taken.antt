-- Names that a step leaves have no place in it.
use Rattle.std.proofs.Common.{◌≡◌, ℕ, Bool, true, false, ◌&&◌, ◌||◌, not, List, [], ◌∷◌, ◌++◌, Some, None, refl, ap, ◌∙◌}
use Rattle.std.specs.Prelude.{All, Contains}
use Rattle.std.specs.List.{list_all}
use Rattle.std.proofs.lemmas.Bool.{and_parts, and_from}
use Rattle.std.proofs.lemmas.List.Elements.{All-contains_itself, All-nil, All-push, All-weaker}
use Rattle.std.proofs.lemmas.List.Folds.{list_any-append}
use Rattle.eight_sides.specs.Shapes.{meet}
use Rattle.poster_plan.specs.declared.plan.Plan.{Plan}
use Rattle.poster_plan.specs.declared.place.Place.{Place}
use Rattle.poster_plan.specs.declared.layout.Step.{Step}
use Rattle.poster_plan.specs.declared.layout.Step.TheVariants.{Full, Small, Over}
use Rattle.poster_plan.specs.declared.layout.Printed.{Printed}
use Rattle.poster_plan.specs.Places.{places_in}
use Rattle.poster_plan.specs.Placing.{in_full, in_order, in_small, is_beside, is_free, mark_numbered, meets_other, meets_printed, name_shape, over_all, place_names, printed_shape, with_place, Placing}
use Rattle.poster_plan.specs.Laws.{AreTaken, HasNoPlace, IsOverOnlyLast}
use Rattle.poster_plan.proofs.Folds.{AnyMark, any_marks, placings_keep}

-- a place that is not free is not free where one name more is printed
still_taken : (met others beside more : Bool) → not (not met && not others && beside) ≡ true → not (not (met || more) && not others && beside) ≡ true
still_taken true others beside more e = refl
still_taken false others beside true e = refl
still_taken false others beside false e = e

more_taken : (u : ℕ) (plan : Plan) (ps : List Printed) (q : Printed) (z : Step) (i : ℕ) (p : Place) → not (is_free u plan ps z i p) ≡ true → not (is_free u plan (ps ++ q ∷ []) z i p) ≡ true
more_taken u plan ps q z i p e =
    let shape = name_shape u plan z i p in
    let others = meets_other u plan (mark_numbered plan.marks i).node.0 shape in
    ap (λ (t : Bool). not (not t && not others && is_beside u plan z shape)) (list_any-append (λ (r : Printed). meet shape (printed_shape u plan r)) ps (q ∷ []))
    ∙ still_taken (meets_printed u plan ps shape) others (is_beside u plan z shape) (meets_printed u plan (q ∷ []) shape) e

all_taken : (u : ℕ) (plan : Plan) (ps : List Printed) (q : Printed) (z : Step) (i : ℕ) (places : List Place)
    → list_all (λ (p : Place). not (is_free u plan ps z i p)) places ≡ true → list_all (λ (p : Place). not (is_free u plan (ps ++ q ∷ []) z i p)) places ≡ true
all_taken u plan ps q z i [] e = refl
all_taken u plan ps q z i (p ∷ places) e =
    let parts = and_parts _ _ e in
    and_from _ _ (more_taken u plan ps q z i p parts.0) (all_taken u plan ps q z i places parts.1)

-- the names that a step leaves
pub step_taken : (u : ℕ) (plan : Plan) (z : Step) (marks : List ℕ) (printed : List Printed) → AreTaken u plan z (place_names u plan z marks printed)
step_taken u plan z marks printed = placings_keep u plan z (AreTaken u plan z) AnyMark some none marks printed (any_marks marks) (All-nil (HasNoPlace u plan z printed))
  where
    some : (so_far : Placing) (i : ℕ) (p : Place) → AnyMark i → AreTaken u plan z so_far → is_free u plan so_far.printed z i p ≡ true → AreTaken u plan z (with_place z i (Some p) so_far)
    some so_far i p any taken free =
        All-weaker (HasNoPlace u plan z so_far.printed) (HasNoPlace u plan z (with_place z i (Some p) so_far).printed)
        (λ j h. all_taken u plan so_far.printed (record { mark = i; step = z; place = p }) z j (places_in z (mark_numbered plan.marks j).level) h) so_far.left taken

    none : (so_far : Placing) (i : ℕ) → AreTaken u plan z so_far → HasNoPlace u plan z so_far.printed i → AreTaken u plan z (with_place z i None so_far)
    none so_far i taken h = All-push (HasNoPlace u plan z so_far.printed) so_far.left i taken h

-- what holds of each name that is placed in a step for one of these marks, and of those that are printed before, holds of all
printed_hold : (u : ℕ) (plan : Plan) (z : Step) (P : Printed → Type 0) (Q : ℕ → Type 0)
    → ((i : ℕ) (p : Place) → Q i → P (record { mark = i; step = z; place = p }))
    → (marks : List ℕ) (printed : List Printed) → All Q marks → All P printed → All P (place_names u plan z marks printed).printed
printed_hold u plan z P Q new marks printed of_marks h =
    placings_keep u plan z (λ (s : Placing). All P s.printed) Q (λ so_far i p is all free. All-push P so_far.printed (record { mark = i; step = z; place = p }) all (new i p is))
    (λ so_far i all none. all) marks printed of_marks h

-- a name lies over lines only where it is left by the step before
pub over_last : (u : ℕ) (plan : Plan) → All (IsOverOnlyLast u plan) (over_all u plan).printed
over_last u plan =
    printed_hold u plan Over (IsOverOnlyLast u plan) (Contains (in_small u plan).left) (λ i p is over. is) (in_small u plan).left (in_small u plan).printed (All-contains_itself (in_small u plan).left)
    (printed_hold u plan Small (IsOverOnlyLast u plan) AnyMark (λ i p any over. absurd (not_small over)) (in_full u plan).left (in_full u plan).printed (any_marks (in_full u plan).left)
    (printed_hold u plan Full (IsOverOnlyLast u plan) AnyMark (λ i p any over. absurd (not_full over)) (in_order u plan) [] (any_marks (in_order u plan)) (All-nil (IsOverOnlyLast u plan))))
  where
    not_small : Small ≡ Over → ⊥
    not_small e = cc

    not_full : Full ≡ Over → ⊥
    not_full e = cc
