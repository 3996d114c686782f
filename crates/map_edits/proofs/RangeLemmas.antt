-- Settings stay in their ranges, and edits are done to them one at a time.
use Rattle.std.proofs.Common.{◌≡◌, ℕ, ◌+◌, ◌<◌, List, [], ◌∷◌, length, All, get_or, drop, sym, ap, ◌∙◌, if◌then◌else◌}
use Rattle.std.proofs.lemmas.List.{drop_more}
use Rattle.std.proofs.lemmas.List.Elements.{All-set, All-head, All-tail}
use Rattle.map_base.specs.Settings.{Choices, AreInRange, AreLight}
use Rattle.map_edits.specs.declared.edit.Edit.{Edit}
use Rattle.map_edits.specs.declared.edit.Edit.TheVariants.{Hide, Show, Weight, Near, Cell, Budget, Rename, Move, Colour, Importance, Undo}
use Rattle.map_edits.specs.Effects.{choices_by, choices_after, IsInRange}
use Rattle.map_edits.proofs.PairLemmas.{rising_with, importance_with}

-- the next edit is done
pub choices_more : (edits : List Edit) (i : ℕ) (edit : Edit) (old new all : Choices) → i < length edits → edit ≡ get_or edits i edit → new ≡ choices_by edit old
    → choices_after (drop i edits) old ≡ all → choices_after (drop (i + 1) edits) new ≡ all
choices_more edits i edit old new all low here done before =
    let next : drop i edits ≡ edit ∷ drop (i + 1) edits = drop_more edits i edit low ∙ ap (λ e. e ∷ drop (i + 1) edits) (sym here) in
    ap (choices_after (drop (i + 1) edits)) done ∙ ap (λ es. choices_after es old) (sym next) ∙ before

-- settings that an edit makes are in their ranges
pub in_range_by : (edit : Edit) (c : Choices) → IsInRange edit → AreInRange c → AreInRange (choices_by edit c)
in_range_by (Weight station weights) c range is =
    record {
      near_from = is.near_from;
      near_to = is.near_to;
      cell = is.cell;
      budget_from = is.budget_from;
      budget_to = is.budget_to;
      types = is.types;
      weights = All-set AreLight c.weights (if station then 1 else 0) weights range is.weights;
      ids = is.ids;
      importance = is.importance;
    }
in_range_by (Near near) c range is =
    record { near_from = range.0; near_to = range.1; cell = is.cell; budget_from = is.budget_from; budget_to = is.budget_to; types = is.types; weights = is.weights; ids = is.ids; importance = is.importance }
in_range_by (Cell cell) c range is =
    record { near_from = is.near_from; near_to = is.near_to; cell = range; budget_from = is.budget_from; budget_to = is.budget_to; types = is.types; weights = is.weights; ids = is.ids; importance = is.importance }
in_range_by (Budget budget) c range is =
    record { near_from = is.near_from; near_to = is.near_to; cell = is.cell; budget_from = range.0; budget_to = range.1; types = is.types; weights = is.weights; ids = is.ids; importance = is.importance }
in_range_by (Importance id number) c range is =
    record {
      near_from = is.near_from;
      near_to = is.near_to;
      cell = is.cell;
      budget_from = is.budget_from;
      budget_to = is.budget_to;
      types = is.types;
      weights = is.weights;
      ids = rising_with c.importance id number is.ids;
      importance = importance_with c.importance id number range is.importance;
    }
in_range_by (Hide id) c range is = is
in_range_by (Show id) c range is = is
in_range_by (Colour id colour) c range is = is
in_range_by (Rename id name) c range is = is
in_range_by (Move id lat lon) c range is = is
in_range_by Undo c range is = is

-- settings that edits make are in their ranges
pub in_range_after : (edits : List Edit) (c : Choices) → All IsInRange edits → AreInRange c → AreInRange (choices_after edits c)
in_range_after [] c ranges is = is
in_range_after (edit ∷ later) c ranges is =
    in_range_after later (choices_by edit c) (All-tail IsInRange edit later ranges) (in_range_by edit c (All-head IsInRange edit later ranges) is)
