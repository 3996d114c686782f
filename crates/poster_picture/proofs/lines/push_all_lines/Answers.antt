use Rattle.std.proofs.Common.{string_bytes}
use Rattle.poster_rules.specs.Posters.{segment_elements}
use Rattle.poster_picture.specs.Sheets.{plain}
use Rattle.poster_picture.proofs.Writing.{numbered_more}
use Rattle.poster_picture.proofs.lines.push_all_lines.Goals as goal

pub loop-s-preserved : goal.loop-s-preserved
loop-s-preserved c = numbered_more (segment_elements (plain c.args.sheet)) c.loop-s.s (string_bytes c.args.text.now) (string_bytes c.loop-s.text) (string_bytes c.push_segment.new.text) c.loop-s.invariant c.in_ok-push_segment.ensures
