-- Frames, one thing after another.
use Rattle.std.proofs.Common.{◌≡◌, ℕ, ◌+◌, ◌<◌, ℤ, List, [], ◌∷◌, ◌++◌, length, get_or, take, fold, refl, ap, sym, ◌∙◌, append-nil, arith}
use Rattle.std.specs.Int.{int_min, int_max}
use Rattle.std.specs.List.{flat_map}
use Rattle.std.proofs.lemmas.Int.{ints, clamps}
use Rattle.std.proofs.lemmas.Grind.{flat_map-append}
use Rattle.std.proofs.lemmas.List.{take_more}
use Rattle.std.proofs.lemmas.List.Sums.{fold-append}
use Rattle.line_offsets.specs.declared.corner.Corner.{Corner}
use Rattle.line_offsets.specs.Shifts.{drawn_at}
use Rattle.eight_sides.specs.declared.frame.Frame.{Frame}
use Rattle.eight_sides.specs.Frames.{frame_at, frame_of, shape_corners, widened}
use Rattle.poster_plan.specs.declared.plan.Piece.{Piece}
use Rattle.poster_plan.specs.declared.plan.Plan.{Plan}
use Rattle.poster_plan.specs.declared.layout.Printed.{Printed}
use Rattle.poster_plan.specs.Placing.{printed_shape}
use Rattle.poster_plan.specs.Pitches.{frame_with, walked_corners}
use Rattle.poster_layout.specs.Extents.{first_frame, piece_ends}

-- one thing more
pub frame_more : {A : Type 0} (f : Frame) (corners : A → List Corner) (xs : List A) (i : ℕ) (d : A) (before after : Frame) → i < length xs
    → before ≡ fold widened f (flat_map corners (take i xs)) → after ≡ fold widened before (corners (get_or xs i d)) → after ≡ fold widened f (flat_map corners (take (i + 1) xs))
frame_more f corners xs i d before after low was now =
    now
    ∙ ap (λ (g : Frame). fold widened g (corners (get_or xs i d))) was
    ∙ sym (fold-append widened f (flat_map corners (take i xs)) (corners (get_or xs i d)))
    ∙ ap (λ (cs : List Corner). fold widened f (flat_map corners (take i xs) ++ cs)) (sym (append-nil (corners (get_or xs i d))))
    ∙ ap (fold widened f) (sym (flat_map-append corners (take i xs) (get_or xs i d ∷ [])))
    ∙ ap (λ ys. fold widened f (flat_map corners ys)) (sym (take_more xs i d low))

min_same : (a : ℤ) → int_min a a ≡ a
min_same a = omega (arith, ints, clamps)

max_same : (a : ℤ) → int_max a a ≡ a
max_same a = omega (arith, ints, clamps)

-- a point is held by its own frame
held : (c : Corner) → widened (frame_at c) c ≡ frame_at c
held c =
    ap (λ (x : ℤ). let f : Frame = record { across = record { least = x; greatest = int_max c.x c.x }; down = record { least = int_min c.y c.y; greatest = int_max c.y c.y } } in f) (min_same c.x)
    ∙ ap (λ (x : ℤ). let f : Frame = record { across = record { least = c.x; greatest = x }; down = record { least = int_min c.y c.y; greatest = int_max c.y c.y } } in f) (max_same c.x)
    ∙ ap (λ (y : ℤ). let f : Frame = record { across = record { least = c.x; greatest = c.x }; down = record { least = y; greatest = int_max c.y c.y } } in f) (min_same c.y)
    ∙ ap (λ (y : ℤ). let f : Frame = record { across = record { least = c.x; greatest = c.x }; down = record { least = c.y; greatest = y } } in f) (max_same c.y)

-- all pieces
pub walked : (u : ℕ) (pieces : List Piece) → fold widened (first_frame u pieces) (flat_map (piece_ends u) pieces) ≡ frame_of (walked_corners u pieces)
walked u [] = refl
walked u (p ∷ ps) = ap (λ (f : Frame). fold widened f (drawn_at u p.end ∷ flat_map (piece_ends u) ps)) (held (drawn_at u p.start))

-- and printed names
pub framed : (u : ℕ) (plan : Plan) (printed : List Printed) → fold widened (frame_of (walked_corners u plan.pieces)) (flat_map (λ (p : Printed). shape_corners (printed_shape u plan p)) printed) ≡ frame_with u plan printed
framed u plan printed = by_corners (walked_corners u plan.pieces) (some plan.pieces)
  where
    named : List Corner
    named = flat_map (λ (p : Printed). shape_corners (printed_shape u plan p)) printed

    some : (ps : List Piece) → 0 < length (walked_corners u ps)
    some [] = omega arith
    some (p ∷ ps) = omega arith

    by_corners : (cs : List Corner) → 0 < length cs → fold widened (frame_of cs) named ≡ frame_of (cs ++ named)
    by_corners [] more = absurd (omega arith)
    by_corners (c ∷ cs) more = sym (fold-append widened (frame_at c) cs named)
