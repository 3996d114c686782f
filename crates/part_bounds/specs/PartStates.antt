-- A part of a problem with the lines placed so far.
use Rattle.std.specs.Prelude.{◌≡◌, ℕ, ◌<◌, List, [], length, slice_index_or, sum_by}
use Rattle.map_base.specs.declared.ids.SegId.{SegId}
use Rattle.map_base.specs.declared.ids.LineId.{LineId}
use Rattle.order_model.specs.declared.term.Term.{Term}
use Rattle.order_model.specs.Prefixes.{ArePlacedLines}
use Rattle.order_model.specs.Completions.{placed_more}
use Rattle.pair_bounds.specs.Counted.{settled_cost}
use Rattle.part_bounds.specs.Settled.{aparts_on}

-- the lines of the problem's segments, the part, its terms behind their numbers, and the placed lines of all segments
pub record PartState : Type 0 where
  pub segs : List (List LineId)
  pub part : List SegId
  pub terms : List (ℕ × Term)
  pub placed : List (List LineId)

-- the part with these placed lines
abbrev pub with_placed : PartState → List (List LineId) → PartState
with_placed b placed = record { segs = b.segs; part = b.part; terms = b.terms; placed = placed }

-- the part with one line more placed on a segment
abbrev pub state_more : PartState → SegId → LineId → PartState
state_more b s a = with_placed b (placed_more b.segs b.placed s a)

-- what the settled Aparts with an end on a segment cost
abbrev pub settled_at : PartState → SegId → ℕ
settled_at b s = sum_by (settled_cost b.segs b.placed) (aparts_on s b.terms)

-- the placed lines of each segment are lines of the segment, each once, and never all but one
pub record IsWell (segs placed : List (List LineId)) : Type 0 where
  pub each : length placed ≡ length segs
  pub lines : (s : ℕ) → s < length segs → ArePlacedLines (slice_index_or segs s []) (slice_index_or placed s [])
