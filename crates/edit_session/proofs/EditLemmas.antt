-- Edits of a script that are refused.
use Rattle.std.proofs.Common.{◌≡◌, ap, sym, subst, refl, ℕ, ◌+◌, ◌≤◌, Bool, true, false, List, Option, None, Some, option_map, arith, codes, Result, Ok, Err, IfOk, if◌then◌else◌}
use Rattle.std.specs.Str.{bytes_eq}
use Rattle.files_door.specs.declared.stop.Stop.{Stop}
use Rattle.map_edits.specs.declared.edit.Edit.{Edit}
use Rattle.map_edits.specs.declared.fault.EditStop.TheVariants as stop
use Rattle.map_edits.specs.declared.reading.ScriptLine.{ScriptLine}
use Rattle.map_edits.specs.declared.reading.ScriptLine.TheVariants as script
use Rattle.map_edits.specs.Grammar.{edit_in, script_line_in}
use Rattle.map_edits.specs.Effects.{IsInRange}
use Rattle.map_edits.specs.Standing.{named_in, is_due}
use Rattle.map_edits.proofs.LineRanges.{line_in_range}
use Rattle.edit_session.specs.Sessions.{SessionState}
use Rattle.edit_session.specs.declared.following.LineEnd.{LineEnd}
use Rattle.edit_session.specs.declared.following.LineEnd.TheVariants.{Followed, Bad}
use Rattle.edit_session.specs.Stages.{Stage, EndsEdit, EndsLine, IsFollowed, stage_of}

-- an edit of a script has its values in range
edit_in_range : (line : List ℕ) (edit : Edit) → script_line_in line ≡ Some (script.Edit edit) → IsInRange edit
edit_in_range line edit says = by_test (bytes_eq line (codes "draw")) (edit_in line) refl says
  where
    by_test : (b : Bool) (o : Option Edit) → edit_in line ≡ o → (if b then Some script.Draw else option_map (λ e. script.Edit e) o) ≡ Some (script.Edit edit) → IsInRange edit
    by_test true o is says = absurd cc
    by_test false None is says = absurd cc
    by_test false (Some e) is says = let same : e ≡ edit = cc in subst IsInRange same (line_in_range line e is)

-- an edit of a script stands, or it is a bad line
pub edit_ended : (old new : SessionState) (count : ℕ) (line : List ℕ) (edit : Edit) (result : Result LineEnd Stop) → script_line_in line ≡ Some (script.Edit edit) → IfOk result (EndsEdit old edit new)
    → IfOk result (EndsLine (stage_of old count) (script_line_in line) (stage_of new count))
edit_ended old new count line edit (Err stop) says ends = tt
edit_ended old new count line edit (Ok Followed) says ends =
    subst (λ (o : Option ScriptLine). EndsLine (stage_of old count) o (stage_of new count) Followed) (sym says) (ends.0.1, ap (λ (s : SessionState). stage_of s count) ends.1)
edit_ended old new count line edit (Ok Bad) says ends =
    subst (λ (o : Option ScriptLine). EndsLine (stage_of old count) o (stage_of new count) Bad) (sym says)
    (by_due (is_due (named_in old.feed) old.standing edit) (λ due. ends.0 (edit_in_range line edit says, due)), ap (λ (s : SessionState). stage_of s count) ends.1)
  where
    by_due : (b : Bool) → (b ≡ true → ⊥) → b ≡ false
    by_due true never = absurd (never refl)
    by_due false never = refl

-- a line draws once at most
pub count_more : (old new : Stage) (o : Option ScriptLine) → IsFollowed old o new → new.count ≤ old.count + 1
count_more old new None is = absurd is
count_more old new (Some script.Draw) is = omega (arith, is.count)
count_more old new (Some (script.Edit edit)) is = omega (arith, ap (λ (s : Stage). s.count) is.1)
