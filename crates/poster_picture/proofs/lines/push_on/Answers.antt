use Rattle.std.proofs.Common.{string_bytes, sym, ◌∙◌}
use Rattle.poster_rules.specs.Elements.{BehindOnSegment, OnSegment}
use Rattle.poster_picture.proofs.Behind.{both_written, front_written}
use Rattle.poster_picture.proofs.lines.push_on.Goals as goal

pub returns-then-is_pale : goal.returns-then-is_pale
returns-then-is_pale c =
    both_written c.args.colour.now (BehindOnSegment c.args.s c.args.line.0 c.args.path.now) (OnSegment c.args.s c.args.line.0 c.args.path.now c.args.colour.now c.args.name.now) (string_bytes c.args.text.now) (string_bytes c.push_behind_on_segment.new.text) (string_bytes c.push_on_segment.new.text) (sym c.is_pale.ensures ∙ c.if-is_pale.true) c.in_ok-push_behind_on_segment.ensures c.in_ok-push_on_segment.ensures

pub returns : goal.returns
returns c =
    front_written c.args.colour.now (BehindOnSegment c.args.s c.args.line.0 c.args.path.now) (OnSegment c.args.s c.args.line.0 c.args.path.now c.args.colour.now c.args.name.now) (string_bytes c.args.text.now) (string_bytes c.push_on_segment-2.new.text) (sym c.is_pale.ensures ∙ c.if-is_pale.false) c.in_ok-push_on_segment-2.ensures
