use Rattle.std.proofs.Common.{◌+◌, ◌++◌, drop, refl, sym, ◌∙◌, subst, List, append-nil, arith}
use Rattle.std.proofs.lemmas.List.{at_drop_all}
use Rattle.std.specs.List.{AllByRecursion}
use Rattle.octi_grid.specs.declared.point.GridPoint.{GridPoint}
use Rattle.octi_grid.specs.declared.walk.Run.{Run}
use Rattle.octi_grid.specs.Ways.{points_from, IsWithin}
use Rattle.octi_grid.specs.Runs.{steps_of}
use Rattle.octi_grid.proofs.WayLemmas.{first_of-points, run_short}
use Rattle.octi_grid.proofs.RunLemmas.{points_of_rest, points_of_run}
use Rattle.poster_rules.specs.Plans.{pieces_from}
use Rattle.poster_graph.proofs.Pieces.{piece_more}
use Rattle.poster_graph.proofs.plans.put_pieces.Goals as goal

pub run_end-end-requires-clause-at : goal.run_end-end-requires-clause-at
run_end-end-requires-clause-at c = first_of-points IsWithin c.loop-i.start _ c.loop-i.invariant.within

pub run_end-end-requires-clause-count : goal.run_end-end-requires-clause-count
run_end-end-requires-clause-count c = run_short c.loop-i.start _ _ (points_of_run c.loop-i.start c.runs-runs.result.now c.loop-i.i c.loop-i-test.true c.loop-i.invariant.within)

pub loop-i-preserved : goal.loop-i-preserved
loop-i-preserved c =
    let rs = c.runs-runs.result.now in
    let next = piece_more c.args.lines c.args.ends rs c.loop-i.i c.loop-i.start c.run_end-end.result c.loop-i.pieces.items c.push.new.self.items _ _ c.loop-i-test.true c.loop-i.invariant.runs c.run_end-end.ensures refl c.in_ok-push.ensures.items c.loop-i.invariant.whole in
    record {
      whole = next.0;
      runs = next.1;
      within =
          subst (λ (p : GridPoint). AllByRecursion IsWithin (points_from p (steps_of (drop (c.loop-i.i + 1) rs)))) (sym c.run_end-end.ensures)
          (points_of_rest c.loop-i.start rs c.loop-i.i c.loop-i-test.true c.loop-i.invariant.within);
    }

pub returns : goal.returns
returns c =
    let pieces = c.loop-i.pieces.items in
    sym (append-nil pieces)
    ∙ sym (at_drop_all (λ (rs : List Run). pieces ++ pieces_from c.args.lines c.args.ends c.loop-i.start c.loop-i.start (steps_of rs)) c.runs-runs.result.now c.loop-i.i (omega arith))
    ∙ c.loop-i.invariant.whole
