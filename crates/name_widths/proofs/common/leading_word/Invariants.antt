use Rattle.std.proofs.Common.{◌≤◌, take}
use Rattle.name_widths.specs.Votes.{texts_of, IsVote}
use Rattle.name_widths.proofs.common.leading_word.Given as goal

-- the vote over the names so far
abbrev pub invariant-loop-name : goal.invariant-loop-name
invariant-loop-name l = record {
  vote : IsVote (texts_of (take l.name-index l.names)) l.vote.word.now l.vote.lead;
  lead : l.vote.lead ≤ l.name-index;
}
