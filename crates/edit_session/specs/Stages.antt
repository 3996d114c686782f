-- What a line of a script makes of a session, and what it appends to the output.
use Rattle.std.specs.Prelude.{◌≡◌, ℕ, ◌+◌, true, false, List, [], All, Contains, Option, None, Some, Result, Ok, Err, IfOk}
use Rattle.files_door.specs.declared.stop.Stop.{Stop}
use Rattle.files_door.specs.declared.stop.Stop.TheVariants.{NoMemory}
use Rattle.map_edits.specs.declared.edit.Edit.{Edit}
use Rattle.map_edits.specs.declared.reading.ScriptLine.{ScriptLine}
use Rattle.map_edits.specs.declared.reading.ScriptLine.TheVariants as script
use Rattle.map_edits.specs.declared.fault.EditStop.{EditStop}
use Rattle.map_edits.specs.declared.fault.EditStop.TheVariants as stop
use Rattle.map_edits.specs.Standing.{named_in, is_due}
use Rattle.map_engine.specs.Promises.{IsMade}
use Rattle.edit_session.specs.Sessions.{SessionState, MayCome, with_edit, with_held, drawn_feed, drawn_choices, draw_outcome, draw_parts, branches_to_draw}
use Rattle.edit_session.specs.declared.following.LineEnd.{LineEnd}
use Rattle.edit_session.specs.declared.following.LineEnd.TheVariants.{Followed, Bad}
use Rattle.edit_session.specs.DrawTexts.{draw_text}

-- a session, and how many draws there were
pub record Stage : Type 0 where
  pub session : SessionState
  pub count : ℕ

abbrev pub stage_of : SessionState → ℕ → Stage
stage_of session count = record { session = session; count = count }

-- A session behind a draw: the edits stand as before, and what was held or is finished now is held. If there is a map, it is one
-- of the tables and settings that the standing edits make.
pub record IsRedrawn (old new : SessionState) : Type 0 where
  pub session : new ≡ with_held old new.held
  pub kept : All (Contains new.held) old.held
  pub finished : All (Contains new.held) (draw_parts old)
  pub made : IfOk (draw_outcome old) (IsMade (drawn_feed old) (drawn_choices old) old.method.claim)

-- one draw more
pub record IsDrawn (old new : Stage) : Type 0 where
  pub redrawn : IsRedrawn old.session new.session
  pub count : new.count ≡ old.count + 1

-- a line is followed: a draw, or an edit that may come
abbrev pub IsFollowed : Stage → Option ScriptLine → Stage → Type 0
IsFollowed old None new = ⊥
IsFollowed old (Some script.Draw) new = IsDrawn old new
IsFollowed old (Some (script.Edit edit)) new = (is_due (named_in old.session.feed) old.session.standing edit ≡ true) × (new ≡ record old { session = with_edit old.session edit })

-- a line is neither a draw nor an edit that may come
abbrev pub IsBadLine : SessionState → Option ScriptLine → Type 0
IsBadLine session None = Unit {0}
IsBadLine session (Some script.Draw) = ⊥
IsBadLine session (Some (script.Edit edit)) = is_due (named_in session.feed) session.standing edit ≡ false

-- a line is followed; or it is bad, and all is as it was
abbrev pub EndsLine : Stage → Option ScriptLine → Stage → LineEnd → Type 0
EndsLine old line new Followed = IsFollowed old line new
EndsLine old line new Bad = IsBadLine old.session line × (new ≡ old)

-- an edit stands, or takes one off; or it may not come, and all is as it was
abbrev pub EndsEdit : SessionState → Edit → SessionState → LineEnd → Type 0
EndsEdit old edit new Followed = MayCome old edit × (new ≡ with_edit old edit)
EndsEdit old edit new Bad = ¬ (MayCome old edit) × (new ≡ old)

-- what comes of a line that is not read
abbrev pub read_to : EditStop → Result LineEnd Stop
read_to stop.BadEdit = Ok Bad
read_to stop.NoMemory = Err NoMemory

-- what a line appends to the output: a draw its text, with its number
abbrev pub line_text : Stage → Option ScriptLine → List ℕ
line_text old None = []
line_text old (Some script.Draw) = draw_text (old.count + 1) (draw_outcome old.session)
line_text old (Some (script.Edit edit)) = []

-- how many branch nodes a line may search
abbrev pub branches_at : SessionState → Option ScriptLine → ℕ
branches_at session None = 0
branches_at session (Some script.Draw) = branches_to_draw session
branches_at session (Some (script.Edit edit)) = 0
