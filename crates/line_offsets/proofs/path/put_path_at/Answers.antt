use Rattle.std.proofs.Common.{◌+◌, ◌++◌, drop, ap, sym, ◌∙◌, subst, List, append-nil, w32, to_z, of_z, arith}
use Rattle.std.proofs.lemmas.List.{at_drop_all}
use Rattle.std.proofs.lemmas.Int.{to_z-of_z}
use Rattle.octi_grid.specs.declared.walk.Run.{Run}
use Rattle.std.specs.List.{AllByRecursion}
use Rattle.octi_grid.specs.declared.point.GridPoint.{GridPoint}
use Rattle.octi_grid.specs.Ways.{points_from, IsWithin}
use Rattle.octi_grid.specs.Runs.{steps_of}
use Rattle.octi_grid.proofs.WayLemmas.{first_of-points, run_short}
use Rattle.octi_grid.proofs.RunLemmas.{points_of_rest, points_of_run}
use Rattle.line_offsets.specs.Paths.{corners_from, line_path_at}
use Rattle.line_offsets.proofs.Paths.{corner_more}
use Rattle.line_offsets.proofs.path.put_path_at.Goals as goal

pub run_end-at-requires-clause-at : goal.run_end-at-requires-clause-at
run_end-at-requires-clause-at c = first_of-points IsWithin c.loop-i.at _ c.loop-i.invariant.within

pub run_end-at-requires-clause-count : goal.run_end-at-requires-clause-count
run_end-at-requires-clause-count c = run_short c.loop-i.at _ _ (points_of_run c.loop-i.at c.runs-runs.result.now c.loop-i.i c.loop-i-test.true c.loop-i.invariant.within)

pub loop-i-preserved : goal.loop-i-preserved
loop-i-preserved c =
    let rs = c.runs-runs.result.now in
    let next = corner_more c.args.pitch (to_z w32 (of_z w32 c.args.k)) rs c.loop-i.i c.loop-i.at c.run_end-at.result c.loop-i.path.items c.push-in-loop-i.new.self.items (line_path_at c.args.pitch c.args.walk.now (to_z w32 (of_z w32 c.args.k)))
    c.corner_behind.result c.loop-i-test.true c.loop-i.invariant.runs c.run_end-at.ensures c.corner_behind.ensures c.in_ok-push-2.ensures.items c.loop-i.invariant.whole in
    record {
      whole = next.0;
      runs = next.1;
      within =
          subst (λ (p : GridPoint). AllByRecursion IsWithin (points_from p (steps_of (drop (c.loop-i.i + 1) rs)))) (sym c.run_end-at.ensures)
          (points_of_rest c.loop-i.at rs c.loop-i.i c.loop-i-test.true c.loop-i.invariant.within);
    }

pub returns : goal.returns
returns c =
    let k = to_z w32 (of_z w32 c.args.k) in
    let path = c.loop-i.path.items in
    sym (append-nil path)
    ∙ sym (at_drop_all (λ (rs : List Run). path ++ corners_from c.args.pitch k c.loop-i.at (steps_of rs)) c.runs-runs.result.now c.loop-i.i (omega arith))
    ∙ c.loop-i.invariant.whole
    ∙ ap (line_path_at c.args.pitch c.args.walk.now) (to_z-of_z w32 c.args.k c.ranges.k)
