use Rattle.std.proofs.Common.{◌≡◌, ◌+◌, ◌≤◌, length, All}
use Rattle.std.specs.Str.Lines.{lines}
use Rattle.map_edits.specs.Effects.{IsInRange}
use Rattle.map_edits.specs.Standing.{named_in, edits_from, edits_in}
use Rattle.map_edits.proofs.script.read_edits.Given as goal

-- what is left behind the lines that were read says what the script says
abbrev pub invariant-loop-line : goal.invariant-loop-line
invariant-loop-line l = record {
  said : edits_from (named_in l.tables) l.done l.standing.items (lines l.rest) ≡ edits_in l.tables l.script;
  counted : l.done + length l.rest ≤ length l.script;
  in_range : All IsInRange l.standing.items;
}

abbrev pub decreases-loop-line : goal.decreases-loop-line
decreases-loop-line l = length l.rest
