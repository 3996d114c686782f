use Rattle.std.proofs.Common.{◌||◌, false, get_or, refl, ◌∙◌, sym, ap, arith}
use Rattle.std.proofs.lemmas.List.{take_all}
use Rattle.poster_rules.specs.Stations.{has_line}
use Rattle.poster_rules.specs.Plans.{line_numbered}
use Rattle.poster_graph.proofs.Flags.{line_flagged, or_false}
use Rattle.poster_graph.proofs.shown.show_lines.Goals as goal

pub loop-line-init : goal.loop-line-init
loop-line-init c = record { each = refl; flagged = λ n low. sym (or_false (get_or c.args.flags.now n false)) }

pub loop-line-preserved : goal.loop-line-preserved
loop-line-preserved c = record {
  each = c.show_line.ensures.each ∙ c.loop-line.invariant.each;
  flagged = λ n low.
      line_flagged c.args.lines.now c.loop-line.line-index n (record { 0 = 0 }) (get_or c.args.flags.now n false) (get_or c.loop-line.flags n false) (get_or c.show_line.new.flags n false) c.loop-line-test.true
      (c.loop-line.invariant.flagged n low) (c.show_line.ensures.flagged n (omega (arith, low, c.loop-line.invariant.each)));
}

pub returns-clause-flagged : goal.returns-clause-flagged
returns-clause-flagged c = λ n low.
    c.loop-line.invariant.flagged n low ∙ ap (λ ls. get_or c.args.flags.now n false || has_line (line_numbered n) ls) (take_all c.loop-line.line-index c.args.lines.now (omega arith))
