-- What the tables of a room say of a place.
use Rattle.std.proofs.Common.{◌≡◌, ℕ, Bool, true, false, ◌&&◌, ◌||◌, not, List, [], ◌∷◌, map, refl, ap, ◌∙◌}
use Rattle.std.specs.List.{list_any}
use Rattle.std.proofs.lemmas.List.Folds.{list_any-append}
use Rattle.eight_sides.specs.declared.shape.Shape.{Shape}
use Rattle.poster_plan.specs.declared.plan.Plan.{Plan}
use Rattle.poster_plan.specs.declared.layout.Printed.{Printed}
use Rattle.poster_plan.specs.Things.{clash}
use Rattle.poster_plan.specs.Placing.{meets_other, meets_piece, meets_printed}
use Rattle.poster_layout.specs.Rooms.{free_piece, ground_thing, name_thing, own, taken_things}

any_map : {A B : Type 0} (p : B → Bool) (f : A → B) (xs : List A) → list_any p (map f xs) ≡ list_any (λ x. p (f x)) xs
any_map p f [] = refl
any_map p f (x ∷ xs) = ap (λ (b : Bool). p (f x) || b) (any_map p f xs)

-- what keeps it away beside lines
pub taken_is : (u : ℕ) (plan : Plan) (printed : List Printed) (n : ℕ) (shape : Shape)
    → list_any (clash (own n shape)) (taken_things u plan printed) ≡ (meets_other u plan n shape || meets_printed u plan printed shape)
taken_is u plan printed n shape =
    list_any-append (clash (own n shape)) (map (ground_thing u) plan.marks) (map (name_thing u plan) printed)
    ∙ ap (λ (b : Bool). b || list_any (clash (own n shape)) (map (name_thing u plan) printed)) (any_map (clash (own n shape)) (ground_thing u) plan.marks)
    ∙ ap (λ (b : Bool). meets_other u plan n shape || b) (any_map (clash (own n shape)) (name_thing u plan) printed)

-- the lines that it meets
pub lines_are : (u : ℕ) (plan : Plan) (n : ℕ) (shape : Shape) → list_any (clash (own n shape)) (map (free_piece u) plan.pieces) ≡ meets_piece u plan shape
lines_are u plan n shape = any_map (clash (own n shape)) (free_piece u) plan.pieces

-- ---- answers

pub not_clear : (others printed beside : Bool) → (others || printed) ≡ true → false ≡ (not printed && not others && beside)
not_clear true true beside e = refl
not_clear true false beside e = refl
not_clear false true beside e = refl
not_clear false false beside e = absurd cc

pub clear_as : (others printed beside : Bool) → (others || printed) ≡ false → beside ≡ (not printed && not others && beside)
clear_as true true beside e = absurd cc
clear_as true false beside e = absurd cc
clear_as false true beside e = absurd cc
clear_as false false beside e = refl
