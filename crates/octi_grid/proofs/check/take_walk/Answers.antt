use Rattle.std.proofs.Common.{false, List, sym, subst, refl}
use Rattle.std.specs.List.{AllByRecursion}
use Rattle.octi_grid.specs.declared.dir.Dir.{Dir}
use Rattle.octi_grid.specs.declared.point.GridPoint.{GridPoint}
use Rattle.octi_grid.specs.Ways.{doubled, points_from, IsWithin}
use Rattle.octi_grid.specs.Runs.{steps_of}
use Rattle.octi_grid.specs.Legal.{Leg}
use Rattle.octi_grid.specs.declared.taken.Taken.{Taken}
use Rattle.octi_grid.specs.Taking.{half_steps, trail, Takes, TakesLeg}
use Rattle.octi_grid.proofs.WayLemmas.{first_of-points, last_of-points}
use Rattle.octi_grid.proofs.CheckLemmas.{if_ok, leg_takes, parts_first, parts_second, parts_whole, way_of_runs}
use Rattle.octi_grid.proofs.check.take_walk.Goals as goal

pub put-requires-clause-within : goal.put-requires-clause-within
put-requires-clause-within c = subst IsWithin (sym c.start-start.ensures) (first_of-points IsWithin c.args.walk.now.start c.args.walk.now.steps c.runs-runs.ensures.walk.within)

pub put-requires-2-clause-within : goal.put-requires-2-clause-within
put-requires-2-clause-within c = subst IsWithin (sym c.end_of.ensures) (last_of-points IsWithin c.args.walk.now.start c.args.walk.now.steps c.runs-runs.ensures.walk.within)

pub take_between-requires : goal.take_between-requires
take_between-requires c =
    subst (λ (p : GridPoint). AllByRecursion IsWithin (points_from p (steps_of c.runs-runs.result.now))) (sym c.start-start.ensures)
    (subst (λ (ds : List Dir). AllByRecursion IsWithin (points_from c.args.walk.now.start ds)) (sym c.runs-runs.ensures.steps) c.runs-runs.ensures.walk.within)

pub returns-then-not-branch : goal.returns-then-not-branch
returns-then-not-branch c =
    let l : Leg = (c.args.ends, c.args.walk.now) in
    let middle = trail (doubled c.args.walk.now.start) (half_steps c.runs-runs.result.now) in
    leg_takes c.args.taken.now c.put.new.self l middle false c.requires.order (way_of_runs c.args.walk.now c.runs-runs.result.now c.runs-runs.ensures.steps c.runs-runs.ensures.runs c.runs-runs.ensures.walk)
    (parts_first c.args.taken.now c.put.new.self l middle c.start-start.result c.in_ok-put.field-0 c.requires.order c.requires.nodes c.start-start.ensures c.in_ok-put.ensures c.if-not-branch.true)

pub returns-then-not-branch-2 : goal.returns-then-not-branch-2
returns-then-not-branch-2 c =
    let l : Leg = (c.args.ends, c.args.walk.now) in
    let middle = trail (doubled c.args.walk.now.start) (half_steps c.runs-runs.result.now) in
    leg_takes c.args.taken.now c.put-2.new.self l middle false c.requires.order (way_of_runs c.args.walk.now c.runs-runs.result.now c.runs-runs.ensures.steps c.runs-runs.ensures.runs c.runs-runs.ensures.walk)
    (parts_second c.args.taken.now c.put.new.self c.put-2.new.self l middle c.start-start.result c.end_of.result c.in_ok-put.field-0 c.in_ok-put-2.field-0 c.requires.order c.requires.nodes
    c.start-start.ensures c.end_of.ensures c.in_ok-put.ensures c.if-not-branch.false c.in_ok-put-2.ensures c.if-not-branch-2.true)

pub returns : goal.returns
returns c =
    let l : Leg = (c.args.ends, c.args.walk.now) in
    let middle = trail (doubled c.args.walk.now.start) (half_steps c.runs-runs.result.now) in
    let new : Taken = record { points = c.put-2.new.self.points; nodes = c.put-2.new.self.nodes; doubled = c.take_between.new.points } in
    if_ok c.take_between.result (Takes c.put-2.new.self.doubled c.take_between.new.points (trail (doubled c.start-start.result) (half_steps c.runs-runs.result.now))) (TakesLeg c.args.taken.now new l)
    (λ u took.
    leg_takes c.args.taken.now new l middle u c.requires.order (way_of_runs c.args.walk.now c.runs-runs.result.now c.runs-runs.ensures.steps c.runs-runs.ensures.runs c.runs-runs.ensures.walk)
    (parts_whole c.args.taken.now c.put.new.self c.put-2.new.self new l middle c.start-start.result c.end_of.result c.in_ok-put.field-0 c.in_ok-put-2.field-0 u c.requires.order c.requires.nodes
    c.start-start.ensures c.end_of.ensures c.in_ok-put.ensures c.if-not-branch.false c.in_ok-put-2.ensures c.if-not-branch-2.false
    (subst (λ (p : GridPoint). Takes c.put-2.new.self.doubled c.take_between.new.points (trail (doubled p) (half_steps c.runs-runs.result.now)) u) c.start-start.ensures took) refl refl))
    c.take_between.ensures
