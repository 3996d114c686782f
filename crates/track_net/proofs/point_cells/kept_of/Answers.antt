use Rattle.std.proofs.Common.{subst, List, take, arith}
use Rattle.std.specs.List.{slice_range}
use Rattle.std.proofs.lemmas.List.{take_all}
use Rattle.map_base.specs.declared.point.Point.{Point}
use Rattle.track_net.specs.Cells.{AreKept}
use Rattle.track_net.proofs.CellLemmas.{AreKept-run, run_all, take_run}
use Rattle.track_net.proofs.point_cells.kept_of.Goals as goal

pub loop-next-preserved : goal.loop-next-preserved
loop-next-preserved c = record {
  within = c.run_end-end.ensures.within;
  kept =
      AreKept-run c.args.size (take c.loop-next.next c.args.points.now) (take c.run_end-end.result c.args.points.now) (slice_range c.args.points.now c.loop-next.next c.run_end-end.result)
      c.loop-next.cells c.keep_all.new.cells c.cell_at-cell.result c.loop-next.invariant.kept
      (take_run c.args.points.now c.loop-next.next c.run_end-end.result (omega arith) c.run_end-end.ensures.within)
      (run_all c.args.size c.args.points.now c.loop-next.next c.run_end-end.result c.cell_at-cell.result c.run_end-end.ensures.within c.run_end-end.ensures.run) c.in_ok-keep_all.ensures;
}

pub returns : goal.returns
returns c =
    subst (λ (ps : List Point). AreKept c.args.size ps c.loop-next.cells) (take_all c.loop-next.next c.args.points.now (omega arith)) c.loop-next.invariant.kept
