use Rattle.std.proofs.Common.{Bool, ◌&&◌, not, ap, sym, ◌∙◌}
use Rattle.poster_rules.specs.Stations.{has_line}
use Rattle.poster_picture.proofs.stations.is_new.Goals as goal

pub returns-then-not-has_line : goal.returns-then-not-has_line
returns-then-not-has_line c = sym (ap (λ (b : Bool). b && not (has_line c.args.line c.args.seen.now)) (sym c.has_line.ensures ∙ c.if-not-has_line.true))

pub returns : goal.returns
returns c =
    ap not c.has_line-2.ensures
    ∙ sym (ap (λ (b : Bool). b && not (has_line c.args.line c.args.seen.now)) (sym c.has_line.ensures ∙ c.if-not-has_line.false))
