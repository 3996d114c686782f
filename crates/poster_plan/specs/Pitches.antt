-- The pitch of a poster: how many units one grid step is.
use Rattle.std.specs.Prelude.{ℕ, ◌+◌, ◌*◌, ◌==◌, ◌&&◌, ◌||◌, not, Bool, true, nat_le, nat_lt, pos, ◌-ℤ◌, int_le, List, [], ◌∷◌, ◌++◌, length, map, filter, fold, unwrap_or, if◌then◌else◌}
use Rattle.std.specs.List.{find, flat_map, list_any, range_with_len}
use Rattle.line_offsets.specs.declared.corner.Corner.{Corner}
use Rattle.line_offsets.specs.Shifts.{drawn_at}
use Rattle.eight_sides.specs.declared.frame.Frame.{Frame}
use Rattle.eight_sides.specs.Frames.{frame_of, origin, shape_corners}
use Rattle.poster_plan.specs.declared.plan.Mark.{Mark}
use Rattle.poster_plan.specs.declared.plan.Piece.{Piece}
use Rattle.poster_plan.specs.declared.plan.Plan.{Plan}
use Rattle.poster_plan.specs.declared.layout.Printed.{Printed}
use Rattle.poster_plan.specs.declared.things.Kin.TheVariants.{Node, Ends}
use Rattle.poster_plan.specs.declared.things.Thing.{Thing}
use Rattle.poster_plan.specs.Signs.{mark_at, piece_at}
use Rattle.poster_plan.specs.Things.{clash}
use Rattle.poster_plan.specs.Placing.{in_full, in_small, named, printed_names, printed_shape}

-- the pitches: 20, 24, 28 and so on to 200
abbrev pub pitches : List ℕ
pitches = map (λ (i : ℕ). 20 + 4 * i) (range_with_len 0 46)

-- ---- room

abbrev pub mark_thing : ℕ → Mark → Thing
mark_thing u m = record { shape = mark_at u m; kin = Node m.node.0 }

abbrev pub piece_thing : ℕ → Piece → Thing
piece_thing u p = record { shape = piece_at u p; kin = Ends p.ends.0.0 p.ends.1.0 }

-- all stations and straight pieces
abbrev pub things_at : ℕ → Plan → List Thing
things_at u plan = map (mark_thing u) plan.marks ++ map (piece_thing u) plan.pieces

-- none of these things clashes with one before it
abbrev pub none_clash : List Thing → List Thing → Bool
none_clash before [] = true
none_clash before (t ∷ ts) = not (list_any (clash t) before) && none_clash (before ++ t ∷ []) ts

-- a pitch is roomy: no two stations and straight pieces meet that have no node in common
abbrev pub is_roomy : ℕ → Plan → Bool
is_roomy u plan = none_clash [] (things_at u plan)

-- ---- what is left out

-- how many names found no place in full size, and how many found none small either, beside lines
abbrev pub full_left : ℕ → Plan → ℕ
full_left u plan = length (in_full u plan).left

abbrev pub small_left : ℕ → Plan → ℕ
small_left u plan = length (in_small u plan).left

-- a pitch is roomy, and of the names at most a tenth is not in full size, and at most a thirtieth not beside lines
abbrev pub suits : Plan → ℕ → Bool
suits plan u = is_roomy u plan && nat_le (10 * full_left u plan) (length (named plan.marks)) && nat_le (30 * small_left u plan) (length (named plan.marks))

-- the first pitch that suits, or the greatest
abbrev pub first_pitch : Plan → ℕ
first_pitch plan = unwrap_or (find (suits plan) pitches) 200

-- ---- the size of the whole

-- the ends of straight pieces, as far as frames go all grid points of walks; the origin where there is none
abbrev pub walked_corners : ℕ → List Piece → List Corner
walked_corners u [] = origin ∷ []
walked_corners u (p ∷ ps) = flat_map (λ (q : Piece). drawn_at u q.start ∷ drawn_at u q.end ∷ []) (p ∷ ps)

-- the least frame of all grid points of walks and of these names
abbrev pub frame_with : ℕ → Plan → List Printed → Frame
frame_with u plan printed = frame_of (walked_corners u plan.pieces ++ flat_map (λ (p : Printed). shape_corners (printed_shape u plan p)) printed)

-- the least frame of all grid points of walks and of the names that are printed at a pitch
abbrev pub extent : ℕ → Plan → Frame
extent u plan = frame_with u plan (printed_names u plan)

-- 4200 units are enough for the longer side
abbrev pub is_small : Frame → Bool
is_small f = int_le (f.across.greatest -ℤ f.across.least) (pos 4200) && int_le (f.down.greatest -ℤ f.down.least) (pos 4200)

abbrev pub fits : Plan → ℕ → Bool
fits plan u = is_small (extent u plan)

-- ---- the choice

-- these pitches as long as all fits, and no further than the first at which each name is in full size
abbrev pub tried : Plan → List ℕ → List ℕ
tried plan [] = []
tried plan (u ∷ us) = if fits plan u then u ∷ (if full_left u plan == 0 then [] else tried plan us) else []

-- fewer names are over lines or left out at one pitch than at another, or as many, and fewer are not in full size
abbrev pub is_better : Plan → ℕ → ℕ → Bool
is_better plan u v =
    nat_lt (small_left u plan) (small_left v plan)
    || (small_left u plan == small_left v plan) && nat_lt (full_left u plan) (full_left v plan)

-- the first of the best
abbrev pub better_of : Plan → ℕ → ℕ → ℕ
better_of plan best u = if is_better plan u best then u else best

-- The pitch: the first that suits, where the whole is larger than 4200 units there. Else the least of the best of those
-- from it on that fit.
abbrev pub pitch_of : Plan → ℕ
pitch_of plan =
    let v = first_pitch plan in
    if fits plan v then fold (better_of plan) v (tried plan (filter (nat_le v) pitches)) else v
