use Rattle.std.proofs.Common.{string_bytes, sym, ◌∙◌}
use Rattle.poster_rules.specs.Elements.{dark, Stroke}
use Rattle.poster_picture.proofs.Behind.{both_written, front_written}
use Rattle.poster_picture.proofs.rows.push_stretch.Goals as goal

pub returns-then-is_pale : goal.returns-then-is_pale
returns-then-is_pale c =
    both_written c.args.colour.now (Stroke c.args.path.now dark 14) (Stroke c.args.path.now c.args.colour.now 12) (string_bytes c.args.text.now) (string_bytes c.push_inked.new.text) (string_bytes c.push_along.new.text) (sym c.is_pale.ensures ∙ c.if-is_pale.true) c.in_ok-push_inked.ensures c.in_ok-push_along.ensures

pub returns : goal.returns
returns c =
    front_written c.args.colour.now (Stroke c.args.path.now dark 14) (Stroke c.args.path.now c.args.colour.now 12) (string_bytes c.args.text.now) (string_bytes c.push_along-2.new.text) (sym c.is_pale.ensures ∙ c.if-is_pale.false) c.in_ok-push_along-2.ensures
