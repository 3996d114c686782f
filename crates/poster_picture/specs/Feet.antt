-- How the feet of the lines that call at a node are gathered.
use Rattle.std.specs.Prelude.{ℕ, ◌&&◌, not, List, [], ◌∷◌, ◌++◌, fold, if◌then◌else◌}
use Rattle.map_base.specs.declared.ids.LineId.{LineId}
use Rattle.line_offsets.specs.declared.corner.Corner.{Corner}
use Rattle.poster_rules.specs.Stations.{has_line}
use Rattle.poster_rules.specs.Posters.{foot_on, with_corner, Sheet, Stand}

-- the lines that are seen, and the feet so far
pub record Gathered : Type 0 where
  pub seen : List LineId
  pub path : List Corner

-- after a line on a segment: its foot is one more where it calls and is not seen
abbrev pub with_stand : Sheet → ℕ → List LineId → Gathered → Stand → Gathered
with_stand sheet n callers so_far t =
    if has_line t.line callers && not (has_line t.line so_far.seen) then
    record { seen = so_far.seen ++ t.line ∷ []; path = with_corner so_far.path (foot_on sheet n t.seg t.line) }
    else so_far

abbrev pub with_stands : Sheet → ℕ → List LineId → Gathered → List Stand → Gathered
with_stands sheet n callers so_far stands = fold (with_stand sheet n callers) so_far stands
