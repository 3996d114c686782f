-- The terms of a part by segment, kind and line.
use mathlib.Core.Bool.{beq}
use Rattle.std.specs.Prelude.{◌≡◌, ◌≢◌, ℕ, zero, suc, ◌==◌, Bool, true, false, ◌&&◌, ◌||◌, List, [], ◌∷◌, ◌++◌, length, map, if◌then◌else◌, Vec}
use Rattle.std.specs.Global.{Global}
use Rattle.map_base.specs.declared.ids.LineId.{LineId}
use Rattle.order_model.specs.declared.term.Term.{Term}
use Rattle.order_model.specs.declared.term.Term.TheVariants.{Side, Link, Apart}
use Rattle.order_model.specs.Costs.{seg_of, other_of}
use Rattle.order_check.specs.declared.slot.PartTerm.{PartTerm}
use Rattle.order_check.specs.declared.spot.Spot.{Spot}
use Rattle.order_check.specs.declared.spot.SpotTerm.{SpotTerm}

-- the term is on the segment
abbrev pub is_on : ℕ → Term → Bool
is_on s t = (seg_of t).0 == s || (other_of t).0 == s

-- one of two lines is this one
abbrev pub is_either : LineId → LineId → LineId → Bool
is_either a b line = a.0 == line.0 || b.0 == line.0

-- the term has the line
abbrev pub is_of_line : LineId → Term → Bool
is_of_line line (Side seg first second w) = is_either first second line
is_of_line line (Link seg other flip a b w) = is_either a b line
is_of_line line (Apart seg other a b w) = is_either a b line

-- the term is an Apart
abbrev pub is_apart : Term → Bool
is_apart (Side seg first second w) = false
is_apart (Link seg other flip a b w) = false
is_apart (Apart seg other a b w) = true

-- the term is at the spot: on its segment, of its kind, and of its line
abbrev pub is_at : Spot → Term → Bool
is_at u t = is_on u.seg.0 t && (beq (is_apart t) u.apart && is_of_line u.line t)

-- two spots are the same
abbrev pub is_spot : Spot → Spot → Bool
is_spot u v = (u.seg.0 == v.seg.0) && (beq u.apart v.apart && (u.line.0 == v.line.0))

-- the lines of a term are two, and so are its segments, but a Side's
abbrev pub AreTwo : Term → Type 0
AreTwo (Side seg first second w) = first.0 ≢ second.0
AreTwo (Link seg other flip a b w) = (a.0 ≢ b.0) × (seg.0 ≢ other.0)
AreTwo (Apart seg other a b w) = (a.0 ≢ b.0) × (seg.0 ≢ other.0)

-- of two lines the other one than this
abbrev pub other_than : LineId → LineId → LineId → LineId
other_than a b line = if a.0 == line.0 then b else a

-- the other line of a term that has this one
abbrev pub beside_line : LineId → Term → LineId
beside_line line (Side seg first second w) = other_than first second line
beside_line line (Link seg other flip a b w) = other_than a b line
beside_line line (Apart seg other a b w) = other_than a b line

-- the term at this place, at a spot
abbrev pub spot_term : ℕ → Spot → Term → SpotTerm
spot_term n u t = record { place = n; other = beside_line u.line t }

-- the term at this place, at a spot, by its two lines
abbrev pub pair_term : ℕ → LineId → LineId → Spot → SpotTerm
pair_term n a b u = record { place = n; other = other_than a b u.line }

-- those of these terms that are at a spot, where the first of them is at this place
abbrev pub terms_at : Spot → ℕ → List PartTerm → List SpotTerm
terms_at u n [] = []
terms_at u n (t ∷ terms) = if is_at u t.term then spot_term n u t.term ∷ terms_at u (suc n) terms else terms_at u (suc n) terms

-- the lists of a table
abbrev pub term_lists : List (Vec SpotTerm Global) → List (List SpotTerm)
term_lists lists = map (λ (v : Vec SpotTerm Global). v.items) lists

-- the list of a spot, of the lists of these
abbrev pub listed : List Spot → List (List SpotTerm) → Spot → List SpotTerm
listed [] lists u = []
listed (s ∷ spots) [] u = []
listed (s ∷ spots) (l ∷ lists) u = if is_spot u s then l else listed spots lists u

-- a term is added to the list at a place, or begins a new one behind the last
abbrev pub with_term : List (List SpotTerm) → ℕ → SpotTerm → List (List SpotTerm)
with_term [] k t = (t ∷ []) ∷ []
with_term (l ∷ lists) zero t = (l ++ t ∷ []) ∷ lists
with_term (l ∷ lists) (suc k) t = l ∷ with_term lists k t

-- each spot lists the terms that are there
pub record IsSpotTable (terms : List PartTerm) (spots : List Spot) (lists : List (List SpotTerm)) : Type 0 where
  pub each : length lists ≡ length spots
  pub at : (u : Spot) → listed spots lists u ≡ terms_at u 0 terms
