use Rattle.std.proofs.Common.{◌≡◌, ◌≤◌, take}
use Rattle.name_widths.specs.Words.{count_with}
use Rattle.name_widths.specs.Votes.{texts_of}
use Rattle.name_widths.proofs.common.count_with.Given as goal

-- the names so far
abbrev pub invariant-loop-name : goal.invariant-loop-name
invariant-loop-name l = record {
  value : l.count ≡ count_with (texts_of (take l.name-index l.names)) l.word;
  small : l.count ≤ l.name-index;
}
