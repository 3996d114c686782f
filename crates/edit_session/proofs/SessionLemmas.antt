-- The edits that stand in a session.
use Rattle.std.proofs.Common.{◌≡◌, ◌-◌, ◌++◌, ◌∷◌, ◌||◌, ℕ, Bool, true, false, cond, List, [], length, map, take, refl, ap, Contains}
use Rattle.std.specs.List.{All, list_any}
use Rattle.std.specs.Str.{bytes_eq}
use Rattle.std.proofs.lemmas.List.Elements.{All-append, All-contains_itself, All-from_recursion, All-take, All-weaker}
use Rattle.transit_feed.specs.Feeds.{Feed}
use Rattle.transit_feed.specs.declared.line.Line.{Line}
use Rattle.transit_feed.specs.declared.station.Station.{Station}
use Rattle.table_rows.specs.Ids.{is_among}
use Rattle.kept_trees.specs.OwnTrees.{HeldPart}
use Rattle.map_edits.specs.declared.edit.Edit.{Edit}
use Rattle.map_edits.specs.declared.edit.Edit.TheVariants.{Hide, Show, Weight, Near, Cell, Budget, Rename, Move, Colour, Importance, Undo}
use Rattle.map_edits.specs.Kinds.{is_undo}
use Rattle.map_edits.specs.Effects.{IsInRange, line_id, station_id}
use Rattle.map_edits.specs.Standing.{Named, named_in, is_named, is_due, after_edit}
use Rattle.edit_session.specs.Sessions.{AreStanding, IsStanding}

-- what may come and is no undo names what is there
named_where_due : (named : Named) (standing : List Edit) (edit : Edit) → is_undo edit ≡ false → is_due named standing edit ≡ true → is_named named edit ≡ true
named_where_due named standing (Hide id) no_undo due = due
named_where_due named standing (Show id) no_undo due = due
named_where_due named standing (Weight station weights) no_undo due = due
named_where_due named standing (Near near) no_undo due = due
named_where_due named standing (Cell cell) no_undo due = due
named_where_due named standing (Budget budget) no_undo due = due
named_where_due named standing (Rename id name) no_undo due = due
named_where_due named standing (Move id lat lon) no_undo due = due
named_where_due named standing (Colour id colour) no_undo due = due
named_where_due named standing (Importance id number) no_undo due = due
named_where_due named standing Undo no_undo due = absurd cc

-- where an edit may come, the edits behind it stand
pub still_standing : (feed : Feed) (standing : List Edit) (edit : Edit) → AreStanding feed standing → IsInRange edit → is_due (named_in feed) standing edit ≡ true
    → AreStanding feed (after_edit standing edit)
still_standing feed standing edit before range due = by_undo (is_undo edit) refl
  where
    by_undo : (b : Bool) → is_undo edit ≡ b → All (IsStanding (named_in feed)) (cond b (take (length standing - 1) standing) (standing ++ edit ∷ []))
    by_undo true h = All-take (IsStanding (named_in feed)) (length standing - 1) standing before
    by_undo false h =
        All-append (IsStanding (named_in feed)) standing (edit ∷ []) before
        (All-from_recursion (IsStanding (named_in feed)) (edit ∷ []) (record { range = range; known = named_where_due (named_in feed) standing edit h due; kept = h }, tt))

-- edits that stand have their values in range
pub standing_in_range : (feed : Feed) (standing : List Edit) → AreStanding feed standing → All IsInRange standing
standing_in_range feed standing before = All-weaker (IsStanding (named_in feed)) IsInRange (λ edit stands. stands.range) standing before

-- an id among those of lines, and among those of stations
pub line_among : (id : List ℕ) (lines : List Line) → list_any (λ (l : Line). bytes_eq id l.id) lines ≡ is_among id (map line_id lines)
line_among id [] = refl
line_among id (l ∷ lines) = ap (λ (b : Bool). bytes_eq id l.id || b) (line_among id lines)

pub station_among : (id : List ℕ) (stations : List Station) → list_any (λ (s : Station). bytes_eq id s.id) stations ≡ is_among id (map station_id stations)
station_among id [] = refl
station_among id (s ∷ stations) = ap (λ (b : Bool). bytes_eq id s.id || b) (station_among id stations)

-- what is held is held
pub itself_held : (held : List HeldPart) → All (Contains held) held
itself_held held = All-contains_itself held
