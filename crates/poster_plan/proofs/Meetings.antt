-- Names that do not meet.
use Rattle.std.proofs.Common.{◌≡◌, ℕ, Bool, true, false, ◌&&◌, ◌||◌, not, ℤ, List, [], ◌∷◌, ◌++◌, refl, ap, ◌∙◌, arith}
use Rattle.std.specs.Prelude.{int_le}
use Rattle.std.specs.Int.{int_min, int_max}
use Rattle.std.proofs.lemmas.Int.{ints, clamps}
use Rattle.std.proofs.lemmas.Bool.{and_parts, and_from}
use Rattle.std.proofs.lemmas.List.Folds.{list_any-append}
use Rattle.eight_sides.specs.declared.interval.Interval.{Interval}
use Rattle.eight_sides.specs.declared.shape.Shape.{Shape}
use Rattle.eight_sides.specs.Shapes.{meet, overlap}
use Rattle.poster_plan.specs.declared.plan.Plan.{Plan}
use Rattle.poster_plan.specs.declared.layout.Printed.{Printed}
use Rattle.poster_plan.specs.Placing.{meets_printed, printed_shape}
use Rattle.poster_plan.specs.Laws.{are_apart}

min_swap : (a b : ℤ) → int_min a b ≡ int_min b a
min_swap a b = omega (arith, ints, clamps)

max_swap : (a b : ℤ) → int_max a b ≡ int_max b a
max_swap a b = omega (arith, ints, clamps)

overlap_swap : (a b : Interval) → overlap a b ≡ overlap b a
overlap_swap a b = ap (λ (z : ℤ). int_le z (int_min a.greatest b.greatest)) (max_swap a.least b.least) ∙ ap (int_le (int_max b.least a.least)) (min_swap a.greatest b.greatest)

pub meet_swap : (a b : Shape) → meet a b ≡ meet b a
meet_swap a b =
    ap (λ (t : Bool). t && overlap a.down b.down && overlap a.difference b.difference && overlap a.sum b.sum) (overlap_swap a.across b.across)
    ∙ ap (λ (t : Bool). overlap b.across a.across && t && overlap a.difference b.difference && overlap a.sum b.sum) (overlap_swap a.down b.down)
    ∙ ap (λ (t : Bool). overlap b.across a.across && overlap b.down a.down && t && overlap a.sum b.sum) (overlap_swap a.difference b.difference)
    ∙ ap (λ (t : Bool). overlap b.across a.across && overlap b.down a.down && overlap b.difference a.difference && t) (overlap_swap a.sum b.sum)

or_false : (b : Bool) → (b || false) ≡ b
or_false true = refl
or_false false = refl

or_parts : (a b : Bool) → (a || b) ≡ false → (a ≡ false) × (b ≡ false)
or_parts true b e = absurd cc
or_parts false b e = (refl, e)

-- no name of a list meets a shape, where the shape meets none of them
not_met : (u : ℕ) (plan : Plan) (p : Printed) (ps : List Printed) (q : Printed) → meets_printed u plan ps (printed_shape u plan q) ≡ false → meet (printed_shape u plan q) (printed_shape u plan p) ≡ false
    → meets_printed u plan (ps ++ p ∷ []) (printed_shape u plan q) ≡ false
not_met u plan p ps q e f =
    list_any-append (λ (r : Printed). meet (printed_shape u plan q) (printed_shape u plan r)) ps (p ∷ [])
    ∙ ap (λ (t : Bool). t || (meet (printed_shape u plan q) (printed_shape u plan p) || false)) e
    ∙ or_false _
    ∙ f

-- one name more that meets none of those before it
pub apart_more : (u : ℕ) (plan : Plan) (ps : List Printed) (p : Printed) → are_apart u plan ps ≡ true → meets_printed u plan ps (printed_shape u plan p) ≡ false → are_apart u plan (ps ++ p ∷ []) ≡ true
apart_more u plan [] p apart e = refl
apart_more u plan (q ∷ qs) p apart e =
    let parts = and_parts _ _ apart in
    let free = or_parts _ _ e in
    let own : meets_printed u plan qs (printed_shape u plan q) ≡ false = not_true _ parts.0 in
    let other : meet (printed_shape u plan q) (printed_shape u plan p) ≡ false = meet_swap (printed_shape u plan q) (printed_shape u plan p) ∙ free.0 in
    and_from _ _ (ap not (not_met u plan p qs q own other)) (apart_more u plan qs p parts.1 free.1)
  where
    not_true : (b : Bool) → not b ≡ true → b ≡ false
    not_true true is = absurd cc
    not_true false is = refl
