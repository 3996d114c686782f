use Rattle.std.proofs.Common.{◌≡◌, ◌+◌, ◌≤◌, length}
use Rattle.std.specs.Str.Lines.{lines}
use Rattle.edit_session.specs.Stages.{stage_of}
use Rattle.edit_session.proofs.LineLemmas.{IsWritten}
use Rattle.edit_session.proofs.following.follow_script.Given as goal

-- what was drawn is the draws of the lines that were followed, and their text stands in the target
abbrev pub invariant-loop-line : goal.invariant-loop-line
invariant-loop-line g l = record {
  way : IsWritten l.fn.session.feed l.fn.session.choices l.fn.session.method l.script l.fn.steps (g.S.Sinks.current l.fn.sinks) (g.S.Sinks.written l.fn.sinks)
      (stage_of l.session l.count) l.done (lines l.rest) l.steps (g.S.Sinks.written l.sinks);
  current : g.S.Sinks.current l.sinks ≡ g.S.Sinks.current l.fn.sinks;
  later : g.S.Sinks.faults l.fn.sinks ≤ g.S.Sinks.faults l.sinks;
  counted : l.done + length l.rest ≤ length l.script;
  drawn : l.count ≤ l.done;
}

abbrev pub decreases-loop-line : goal.decreases-loop-line
decreases-loop-line g l = length l.rest
