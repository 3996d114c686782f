-- The terms that a placing may change.
use Rattle.std.specs.Prelude.{◌+◌, ◌-◌, nat_le, Bool, true, false, ◌&&◌, ◌||◌, not, List, [], ◌∷◌, ◌++◌, length, find, filter, Option, Some, None, unwrap_or, slice_index_or, if◌then◌else◌}
use Rattle.map_base.specs.declared.ids.SegId.{SegId}
use Rattle.map_base.specs.declared.ids.LineId.{LineId}
use Rattle.order_model.specs.declared.term.Term.{Term}
use Rattle.order_model.specs.Problems.{lines_on}
use Rattle.order_model.specs.Prefixes.{is_unplaced, is_left}
use Rattle.order_check.specs.declared.slot.PartTerm.{PartTerm}
use Rattle.order_check.specs.declared.placing.Placing.{Placing}
use Rattle.order_check.specs.declared.picking.Pick.{Pick}
use Rattle.order_check.specs.declared.spot.Spot.{Spot}
use Rattle.order_check.specs.declared.spot.SpotTerm.{SpotTerm}
use Rattle.order_check.specs.Charging.{no_part_term}
use Rattle.order_check.specs.Spots.{is_of_line, is_at, beside_line}

-- the last of these lines, or another where there is none
abbrev pub last_or : List LineId → LineId → LineId
last_or lines other = slice_index_or lines (length lines - 1) other

-- the first of a segment's lines that is left beside this one; this one where there is none
abbrev pub other_left : List LineId → LineId → List LineId → LineId
other_left placed line lines = unwrap_or (find (is_unplaced (placed ++ line ∷ [])) lines) line

-- where no more than three lines of a segment are left, the one that is left beside this one; else the line that is
-- placed last
abbrev pub left_or : List LineId → List LineId → LineId → LineId
left_or lines placed line = if nat_le (length lines) (length placed + 3) then other_left placed line lines else last_or placed line

-- the placing of a line that is next on a segment
abbrev pub placing_of : List (List LineId) → List (List LineId) → SegId → LineId → Placing
placing_of segs placed s a = record {
  seg = s;
  line = a;
  last = last_or (lines_on placed s) a;
  left = left_or (lines_on segs s) (lines_on placed s) a;
}

-- the spot of a line's Aparts on its segment, or of its other terms there
abbrev pub spot_on : Placing → Bool → LineId → Spot
spot_on p apart a = record { seg = p.seg; apart = apart; line = a }

-- the term has the line, if there is one
abbrev pub is_of_any : Option LineId → Term → Bool
is_of_any None t = false
is_of_any (Some line) t = is_of_line line t

-- the terms that a pick picks of those at its spot, where these lines of the segment are placed: their other line left, and
-- not of the line that is left out
abbrev pub is_picked : Pick → List LineId → List LineId → Term → Bool
is_picked c lines placed t = is_left lines placed (beside_line c.spot.line t) && not (is_of_any c.but t)

-- the term that stands at the place of a spot's term among these
abbrev pub term_of : List PartTerm → SpotTerm → PartTerm
term_of terms t = slice_index_or terms t.place no_part_term

abbrev pub is_picked_of : Pick → List LineId → List LineId → List PartTerm → SpotTerm → Bool
is_picked_of c lines placed terms t = is_left lines placed t.other && not (is_of_any c.but (term_of terms t).term)

-- what a pick picks of the terms there
abbrev pub picked_of : Pick → List LineId → List LineId → List PartTerm → List SpotTerm → List PartTerm
picked_of c lines placed terms [] = []
picked_of c lines placed terms (t ∷ some) = (if is_picked_of c lines placed terms t then term_of terms t ∷ [] else []) ++ picked_of c lines placed terms some

-- whether a pick picks a term, of all terms of a part: it is at its spot, and picked there
abbrev pub is_picked_at : Pick → List LineId → List LineId → Term → Bool
is_picked_at c lines placed t = is_at c.spot t && is_picked c lines placed t

-- the picks of a placing: by which its line stands before another; the Aparts of the line that is placed last, and of another
-- one that is left
abbrev pub own_pick : Placing → Pick
own_pick p = record { spot = spot_on p false p.line; but = None }

abbrev pub last_pick : Placing → Pick
last_pick p = record { spot = spot_on p true p.last; but = None }

abbrev pub left_pick : Placing → Pick
left_pick p = record { spot = spot_on p true p.left; but = Some p.last }

-- the terms that it may change
abbrev pub changes : Placing → List LineId → List LineId → Term → Bool
changes p lines placed t = is_picked_at (own_pick p) lines placed t || (is_picked_at (last_pick p) lines placed t || is_picked_at (left_pick p) lines placed t)

-- those of them that a pick picks, and all
abbrev pub picked_terms : Pick → List LineId → List LineId → List PartTerm → List PartTerm
picked_terms c lines placed terms = filter (λ (t : PartTerm). is_picked_at c lines placed t.term) terms

abbrev pub changed_terms : Placing → List LineId → List LineId → List PartTerm → List PartTerm
changed_terms p lines placed terms =
    (picked_terms (own_pick p) lines placed terms ++ picked_terms (last_pick p) lines placed terms) ++ picked_terms (left_pick p) lines placed terms
