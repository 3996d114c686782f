use Rattle.std.proofs.Common.{◌≡◌, length, take, All}
use Rattle.transit_feed.specs.declared.line.Line.{Line as FeedLine}
use Rattle.hex.specs.Hex.{IsBytes}
use Rattle.export_command.proofs.written.read_colours.Given as goal

-- the lines so far
abbrev pub invariant-loop-line : goal.invariant-loop-line
invariant-loop-line l = All (λ (x : FeedLine). (length x.colour ≡ 3) × IsBytes x.colour) (take l.line-index l.lines)
