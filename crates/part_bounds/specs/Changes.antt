-- What a placing changes on a segment: the pairs of lines that are decided there with it, and not without.
use Rattle.std.specs.Prelude.{◌≡◌, ◌+◌, ◌-◌, ◌≤◌, ◌==◌, Bool, ◌&&◌, ◌||◌, not, List, length, slice_index_or}
use Rattle.map_base.specs.declared.ids.LineId.{LineId}
use Rattle.order_model.specs.Prefixes.{is_placed}
use Rattle.order_model.specs.Completions.{BeginsWith}
use Rattle.order_bound.specs.declared.pairs.Pair.{Pair}
use Rattle.part_bounds.specs.PairGroups.{Group, meets}
use Rattle.part_bounds.specs.declared.changes.Change.{Change}

-- the line is among the last two that are placed with the placing
abbrev pub is_among_last : Change → LineId → Bool
is_among_last c a = c.last.0.0 == a.0 || c.last.1.0 == a.0

-- one of two lines is
abbrev pub has_among_last : Change → Pair → Bool
has_among_last c p = is_among_last c p.lesser || is_among_last c p.greater

-- one of two lines is placed without the placing
abbrev pub is_known : Change → Pair → Bool
is_known c p = is_placed c.known.now p.lesser || is_placed c.known.now p.greater

-- the pair is decided with the placing, and not without
abbrev pub is_new_pair : Change → Pair → Bool
is_new_pair c p = has_among_last c p && not (is_known c p)

-- it has a term on the segment, too
abbrev pub is_changed : Change → Group → Bool
is_changed c g = is_new_pair c g.0 && meets g.1 c.seg

-- a placing that made of some placed lines of a segment more
pub record IsChange (before after : List LineId) (c : Change) : Type 0 where
  pub known_is : c.known.now ≡ before
  pub begins : BeginsWith before after
  pub few : length after ≤ length before + 2
  pub last_is : c.last.0 ≡ slice_index_or after (length after - 1) c.last.0
  pub before_is : c.last.1 ≡ slice_index_or after (length after - 2) c.last.1
