use Rattle.std.proofs.Common.{◌+◌, ◌-◌, ◌<◌, List, ◌++◌, Vec, ap, ◌∙◌, arith}
use Rattle.std.specs.declared.alloc.Global.{Global}
use Rattle.trial_feed.specs.declared.lattice.Place.{Place}
use Rattle.trial_feed.specs.Lattice.{line_count}
use Rattle.trial_feed.specs.Lines.{lines, lines_drawn, stops_of}
use Rattle.trial_feed.proofs.WalkLemmas.{lines_go_on}
use Rattle.trial_feed.proofs.walks.lines_of.Goals as goal

pub loop-number-preserved : goal.loop-number-preserved
loop-number-preserved c =
    let below : c.loop-number._number < line_count c.args.trial = omega arith in
    ap (λ (xs : List (Vec Place Global)). stops_of xs ++ lines_drawn (line_count c.args.trial - (c.loop-number._number + 1)) c.side-side.result c.line_of.new.draws.state)
    c.in_ok-push.ensures.items
    ∙ lines_go_on c.loop-number.lines.items c.in_ok-line_of.field-0 (line_count c.args.trial) c.loop-number._number c.side-side.result
    c.loop-number.draws.state c.line_of.new.draws.state (lines c.args.trial) below c.in_ok-line_of.ensures c.loop-number.invariant
