-- What a script draws.
use Rattle.std.specs.Prelude.{ℕ, suc, ◌+◌, List, [], ◌∷◌, ◌++◌, map, Option, Some, None, Result, if◌then◌else◌}
use Rattle.std.specs.Str.Lines.{lines}
use Rattle.map_base.specs.Settings.{Choices}
use Rattle.map_method.specs.Methods.{MethodChoices}
use Rattle.transit_feed.specs.Feeds.{Feed}
use Rattle.kept_trees.specs.OwnTrees.{HeldPart}
use Rattle.map_edits.specs.declared.edit.Edit.{Edit}
use Rattle.map_edits.specs.declared.reading.ScriptLine.{ScriptLine}
use Rattle.map_edits.specs.declared.reading.ScriptLine.TheVariants as script
use Rattle.map_edits.specs.Grammar.{script_line_in}
use Rattle.map_edits.specs.Effects.{feed_after, choices_after}
use Rattle.map_edits.specs.Standing.{Named, named_in, is_due, after_edit}
use Rattle.map_faults.specs.declared.fault.MakeFault.{MakeFault}
use Rattle.graph_maps.specs.Making.{MapBytes}
use Rattle.map_engine.specs.Making.{make_outcome}
use Rattle.map_engine.specs.Keeping.{finished_parts, branches_left}

-- a script as it is followed: the edits that stand at each of its draws, in their order, up to its first bad line; and
-- the number of that line, from 1, if there is one
pub record Followed : Type 0 where
  pub draws : List (List Edit)
  pub bad : Option ℕ

-- a draw before others
abbrev pub with_draw : List Edit → Followed → Followed
with_draw standing later = record later { draws = standing ∷ later.draws }

-- ends at the line after so many
abbrev pub ends_behind : ℕ → Followed
ends_behind done = record { draws = []; bad = Some (suc done) }

-- a line behind these edits, after so many lines: behind a draw, or an edit that may come, the script goes on
abbrev pub followed_by : Named → ℕ → List Edit → Option ScriptLine → (List Edit → Followed) → Followed
followed_by named done standing None next = ends_behind done
followed_by named done standing (Some script.Draw) next = with_draw standing (next standing)
followed_by named done standing (Some (script.Edit edit)) next = if is_due named standing edit then next (after_edit standing edit) else ends_behind done

-- lines behind these edits, after so many lines
abbrev pub followed_from : Named → ℕ → List Edit → List (List ℕ) → Followed
followed_from named done standing [] = record { draws = []; bad = None }
followed_from named done standing (line ∷ rest) = followed_by named done standing (script_line_in line) (λ next. followed_from named (suc done) next rest)

-- a script, up to its first line that is neither a draw nor an edit that may come
abbrev pub followed_in : Feed → List ℕ → Followed
followed_in feed bytes = followed_from (named_in feed) 0 [] (lines bytes)

-- what a draw gives where these edits stand: what a fresh start with them gives
abbrev pub draw_with : Feed → Choices → MethodChoices → List Edit → Result MapBytes MakeFault
draw_with feed choices method standing = make_outcome (feed_after standing feed) (choices_after standing choices) method

-- what the draws of a script give, in their order
abbrev pub draws_in : Feed → Choices → MethodChoices → List ℕ → List (Result MapBytes MakeFault)
draws_in feed choices method bytes = map (draw_with feed choices method) (followed_in feed bytes).draws

-- the parts that a draw finishes where these edits stand
abbrev pub finished_with : Feed → Choices → MethodChoices → List Edit → List HeldPart
finished_with feed choices method standing = finished_parts (feed_after standing feed) (choices_after standing choices) method

-- how many branch nodes the searches of those parts meet, over draws one after the other, that no earlier draw finished
abbrev pub branches_over : Feed → Choices → MethodChoices → List HeldPart → List (List Edit) → ℕ
branches_over feed choices method finished [] = 0
branches_over feed choices method finished (standing ∷ later) =
    branches_left finished (feed_after standing feed) (choices_after standing choices) method
    + branches_over feed choices method (finished ++ finished_with feed choices method standing) later

-- how many branch nodes the draws of a script may search: those of each part once, unless a draw ended before it
abbrev pub branches_to_follow : Feed → Choices → MethodChoices → List ℕ → ℕ
branches_to_follow feed choices method bytes = branches_over feed choices method [] (followed_in feed bytes).draws
