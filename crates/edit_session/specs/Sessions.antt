-- Sessions: what they are seen as, which edits may come, and what a draw gives.
use Rattle.std.specs.Prelude.{◌≡◌, ℕ, true, false, List, [], All, Result}
use Rattle.map_base.specs.Settings.{Choices}
use Rattle.map_method.specs.Methods.{MethodChoices}
use Rattle.transit_feed.specs.Feeds.{Feed}
use Rattle.kept_trees.specs.OwnTrees.{HeldPart}
use Rattle.map_edits.specs.declared.edit.Edit.{Edit}
use Rattle.map_edits.specs.declared.fault.EditStop.{EditStop}
use Rattle.map_edits.specs.declared.fault.EditStop.TheVariants as stop
use Rattle.map_edits.specs.Kinds.{is_undo}
use Rattle.map_edits.specs.Effects.{IsInRange, feed_after, choices_after}
use Rattle.map_edits.specs.Standing.{Named, named_in, is_named, is_due, after_edit}
use Rattle.map_faults.specs.declared.fault.MakeFault.{MakeFault}
use Rattle.graph_maps.specs.Making.{MapBytes}
use Rattle.map_engine.specs.Making.{make_outcome}
use Rattle.map_engine.specs.Keeping.{finished_parts, branches_left}

-- The tables and settings that a session was begun with, how its maps are found, the edits that stand, in their order, and
-- the parts, each by itself, of which it is kept what was found.
pub record SessionState : Type 0 where
  pub feed : Feed
  pub choices : Choices
  pub method : MethodChoices
  pub standing : List Edit
  pub held : List HeldPart

-- a session as it begins
abbrev pub begun : Feed → Choices → MethodChoices → SessionState
begun feed choices method = record { feed = feed; choices = choices; method = method; standing = []; held = [] }

-- an edit that stands: its values are in range, its line or station is there, and it is no undo
pub record IsStanding (named : Named) (edit : Edit) : Type 0 where
  pub range : IsInRange edit
  pub known : is_named named edit ≡ true
  pub kept : is_undo edit ≡ false

abbrev pub AreStanding : Feed → List Edit → Type 0
AreStanding feed standing = All (IsStanding (named_in feed)) standing

-- an edit may come: its values are in range, its line or station is there, and an undo has something to take off
abbrev pub MayCome : SessionState → Edit → Type 0
MayCome session edit = IsInRange edit × (is_due (named_in session.feed) session.standing edit ≡ true)

-- the session behind an edit
abbrev pub with_edit : SessionState → Edit → SessionState
with_edit session edit = record session { standing = after_edit session.standing edit }

-- the session with these parts kept
abbrev pub with_held : SessionState → List HeldPart → SessionState
with_held session held = record session { held = held }

-- an edit is refused as bad only where it may not come; want of memory is free
abbrev pub IsRefused : SessionState → Edit → EditStop → Type 0
IsRefused session edit stop.BadEdit = ¬ (MayCome session edit)
IsRefused session edit stop.NoMemory = Unit {0}

-- the tables that are drawn
abbrev pub drawn_feed : SessionState → Feed
drawn_feed session = feed_after session.standing session.feed

-- the settings that they are drawn by
abbrev pub drawn_choices : SessionState → Choices
drawn_choices session = choices_after session.standing session.choices

-- What a draw gives: the map and the certificate of the edited tables and settings, or why there are none. What is kept
-- is no part of it.
abbrev pub draw_outcome : SessionState → Result MapBytes MakeFault
draw_outcome session = make_outcome (drawn_feed session) (drawn_choices session) session.method

-- the parts that a draw finishes
abbrev pub draw_parts : SessionState → List HeldPart
draw_parts session = finished_parts (drawn_feed session) (drawn_choices session) session.method

-- how many branch nodes the searches of those parts of a draw meet that are not kept
abbrev pub branches_to_draw : SessionState → ℕ
branches_to_draw session = branches_left session.held (drawn_feed session) (drawn_choices session) session.method
