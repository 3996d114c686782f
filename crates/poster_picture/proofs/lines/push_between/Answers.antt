use Rattle.std.proofs.Common.{string_bytes, sym, ◌∙◌}
use Rattle.poster_rules.specs.Elements.{AtNode, BehindAtNode}
use Rattle.poster_picture.proofs.Behind.{both_written, front_written}
use Rattle.poster_picture.proofs.lines.push_between.Goals as goal

pub returns-then-is_pale : goal.returns-then-is_pale
returns-then-is_pale c =
    both_written c.args.colour.now (BehindAtNode c.args.n.0 c.args.line.0 c.args.path.now) (AtNode c.args.n.0 c.args.line.0 c.args.path.now c.args.colour.now) (string_bytes c.args.text.now) (string_bytes c.push_behind_at_node.new.text) (string_bytes c.push_at_node.new.text) (sym c.is_pale.ensures ∙ c.if-is_pale.true) c.in_ok-push_behind_at_node.ensures c.in_ok-push_at_node.ensures

pub returns : goal.returns
returns c =
    front_written c.args.colour.now (BehindAtNode c.args.n.0 c.args.line.0 c.args.path.now) (AtNode c.args.n.0 c.args.line.0 c.args.path.now c.args.colour.now) (string_bytes c.args.text.now) (string_bytes c.push_at_node-2.new.text) (sym c.is_pale.ensures ∙ c.if-is_pale.false) c.in_ok-push_at_node-2.ensures
