use Rattle.std.proofs.Common.{◌∙◌, refl, subst, ℕ, ◌-◌, take, Option, arith}
use Rattle.drawing_search.proofs.Common.{scale_of, IsRunLaid}
use Rattle.drawing_search.proofs.Alikes.{legal_alike}
use Rattle.drawing_search.proofs.LaidBack.{so_far_still}
use Rattle.drawing_search.proofs.LayLoop.{ahead_enough, bound_next, free_next, laid_all, laid_given_up, laid_takable, lay_begins, lay_ends, lay_more, room_next, run_next}
use Rattle.drawing_search.proofs.RunReads.{run_from, run_to}
use Rattle.drawing_search.proofs.trying.Search.lay_all.Goals as goal

pub loop-i-init : goal.loop-i-init
loop-i-init c =
    let f = c.args.field in
    record {
      laying = lay_begins f.graph.now c.requires.field.graph (scale_of f.by) f.first.now c.args.runs.now c.args.least.now c.args.self.now.sketch c.args.self.now.weight c.requires.runs c.requires.each c.args.base c.args.ahead c.requires.bounds c.requires.base c.requires.ahead c.requires.less;
      kept = refl;
      made = refl;
    }

pub between_ends-ahead-requires : goal.between_ends-ahead-requires
between_ends-ahead-requires c =
    let f = c.args.field in
    let is = run_next f.graph.now c.requires.field.graph (scale_of f.by) f.first.now c.args.runs.now c.args.least.now c.args.self.now.sketch c.args.self.now.weight c.requires.runs c.requires.each c.loop-i.i c.loop-i.self.sketch c.loop-i.weight c.loop-i.ahead c.loop-i.invariant.laying c.loop-i-test.true c.index-runs-i.result c.index-runs-i.is in
    record {
      from = omega (arith, run_from f.graph.now c.requires.field.graph c.index-runs-i.result is, c.loop-i.invariant.laying.ready.legal.points_each);
      to = omega (arith, run_to f.graph.now c.requires.field.graph c.index-runs-i.result is, c.loop-i.invariant.laying.ready.legal.points_each);
      small = c.requires.small c.loop-i.i _ (omega (arith, c.loop-i-test.true, c.requires.each));
    }

pub overflow_sub-ahead : goal.overflow_sub-ahead
overflow_sub-ahead c =
    let f = c.args.field in
    ahead_enough f.graph.now c.requires.field.graph (scale_of f.by) f.first.now c.args.runs.now c.args.least.now c.args.self.now.sketch c.args.self.now.weight c.requires.runs c.requires.each c.loop-i.i c.loop-i.self.sketch c.loop-i.weight c.loop-i.ahead c.loop-i.invariant.laying c.loop-i-test.true c.index-runs-i.result c.index-runs-i.is _ c.between_ends-ahead.result c.between_ends-ahead.ensures

pub lay_run-requires : goal.lay_run-requires
lay_run-requires c =
    let f = c.args.field in
    let room = room_next f.graph.now c.requires.field.graph (scale_of f.by) f.first.now c.args.runs.now c.args.least.now c.args.self.now.sketch c.args.self.now.weight c.requires.runs c.requires.each c.loop-i.i c.loop-i.self.sketch c.loop-i.weight c.loop-i.ahead c.loop-i.invariant.laying c.loop-i-test.true c.index-runs-i.result c.index-runs-i.is _ c.between_ends-ahead.result c.between_ends-ahead.ensures in
    record {
      field = c.requires.field;
      legal = c.loop-i.invariant.laying.ready.legal;
      run = run_next f.graph.now c.requires.field.graph (scale_of f.by) f.first.now c.args.runs.now c.args.least.now c.args.self.now.sketch c.args.self.now.weight c.requires.runs c.requires.each c.loop-i.i c.loop-i.self.sketch c.loop-i.weight c.loop-i.ahead c.loop-i.invariant.laying c.loop-i-test.true c.index-runs-i.result c.index-runs-i.is;
      free = free_next f.graph.now c.requires.field.graph (scale_of f.by) f.first.now c.args.runs.now c.args.least.now c.args.self.now.sketch c.args.self.now.weight c.requires.runs c.requires.each c.loop-i.i c.loop-i.self.sketch c.loop-i.weight c.loop-i.ahead c.loop-i.invariant.laying c.loop-i-test.true c.index-runs-i.result c.index-runs-i.is;
      bound = bound_next f.graph.now c.requires.field.graph (scale_of f.by) f.first.now c.args.runs.now c.args.least.now c.args.self.now.sketch c.args.self.now.weight c.requires.runs c.requires.each c.loop-i.i c.loop-i.self.sketch c.loop-i.weight c.loop-i.ahead c.loop-i.invariant.laying c.loop-i-test.true c.index-runs-i.result c.index-runs-i.is _;
      small = c.requires.small c.loop-i.i _ (omega (arith, c.loop-i-test.true, c.requires.each));
      room = omega (arith, room, c.loop-i.invariant.kept);
      limit = omega (arith, c.requires.weight, c.loop-i.invariant.kept);
    }

-- the run is not left on the board
pub take_all-requires-clause-takable : goal.take_all-requires-clause-takable
take_all-requires-clause-takable c =
    let f = c.args.field in
    let k = c.loop-i.self.sketch in
    let same = (subst (λ (o : Option ℕ). IsRunLaid (scale_of f.by) f.graph.now f.first.now c.loop-i.self.weight c.loop-i.weight (c.loop-i.ahead - c.between_ends-ahead.result) c.index-runs-i.result k c.lay_run.new.self.sketch o) c.in_default.is c.in_ok-more.ensures.laid).0 in
    laid_takable f.graph.now c.requires.field.graph (scale_of f.by) f.first.now c.args.runs.now c.args.least.now c.args.self.now.sketch c.args.self.now.weight c.requires.runs c.requires.each c.loop-i.i c.lay_run.new.self.sketch (legal_alike f.graph.now c.lay_run.new.self.sketch k same c.loop-i.invariant.laying.ready.legal)
    (so_far_still (take c.loop-i.i c.args.runs.now) c.args.self.now.sketch k c.lay_run.new.self.sketch same c.loop-i.invariant.laying.so_far)

pub returns-in_default : goal.returns-in_default
returns-in_default c =
    let f = c.args.field in
    let k = c.loop-i.self.sketch in
    let none = subst (λ (o : Option ℕ). IsRunLaid (scale_of f.by) f.graph.now f.first.now c.loop-i.self.weight c.loop-i.weight (c.loop-i.ahead - c.between_ends-ahead.result) c.index-runs-i.result k c.lay_run.new.self.sketch o) c.in_default.is c.in_ok-more.ensures.laid in
    record {
      laid =
          laid_given_up f.graph.now c.requires.field.graph (scale_of f.by) f.first.now c.args.runs.now c.args.least.now c.args.self.now.sketch c.args.self.now.weight c.requires.runs c.requires.each c.loop-i.i c.lay_run.new.self.sketch (legal_alike f.graph.now c.lay_run.new.self.sketch k none.0 c.loop-i.invariant.laying.ready.legal)
          (so_far_still (take c.loop-i.i c.args.runs.now) c.args.self.now.sketch k c.lay_run.new.self.sketch none.0 c.loop-i.invariant.laying.so_far)
          c.take_all.new.self.sketch c.take_all.ensures.sketch
          (lay_ends f.graph.now c.requires.field.graph (scale_of f.by) f.first.now c.args.runs.now c.args.least.now c.args.self.now.sketch c.args.self.now.weight c.requires.runs c.requires.each c.loop-i.i c.loop-i.self.sketch c.loop-i.weight c.loop-i.ahead c.loop-i.invariant.laying c.loop-i-test.true c.index-runs-i.result c.index-runs-i.is _ c.between_ends-ahead.result c.between_ends-ahead.ensures (λ mid e. omega (arith, none.1 mid e, c.loop-i.invariant.kept)));
      weight = c.take_all.ensures.weight ∙ c.in_ok-more.ensures.weight ∙ c.loop-i.invariant.kept;
      made = c.take_all.ensures.made ∙ c.in_ok-more.ensures.made ∙ c.loop-i.invariant.made;
    }

pub loop-i-preserved : goal.loop-i-preserved
loop-i-preserved c =
    let f = c.args.field in
    let k = c.loop-i.self.sketch in
    let some = subst (λ (o : Option ℕ). IsRunLaid (scale_of f.by) f.graph.now f.first.now c.loop-i.self.weight c.loop-i.weight (c.loop-i.ahead - c.between_ends-ahead.result) c.index-runs-i.result k c.lay_run.new.self.sketch o) c.in-Some.is c.in_ok-more.ensures.laid in
    record {
      laying = lay_more f.graph.now c.requires.field.graph (scale_of f.by) f.first.now c.args.runs.now c.args.least.now c.args.self.now.sketch c.args.self.now.weight c.requires.runs c.requires.each c.loop-i.i c.loop-i.self.sketch c.loop-i.weight c.loop-i.ahead c.loop-i.invariant.laying c.loop-i-test.true c.index-runs-i.result c.index-runs-i.is _ c.between_ends-ahead.result c.between_ends-ahead.ensures c.lay_run.new.self.sketch c.in-Some.more some.0 some.1 (omega (arith, some.2, c.loop-i.invariant.kept));
      kept = c.in_ok-more.ensures.weight ∙ c.loop-i.invariant.kept;
      made = c.in_ok-more.ensures.made ∙ c.loop-i.invariant.made;
    }

pub returns : goal.returns
returns c =
    let f = c.args.field in
    record {
      laid = laid_all f.graph.now c.requires.field.graph (scale_of f.by) f.first.now c.args.runs.now c.args.least.now c.args.self.now.sketch c.args.self.now.weight c.requires.runs c.requires.each c.loop-i.i c.loop-i.self.sketch c.loop-i.weight c.loop-i.ahead c.loop-i.invariant.laying c.loop-i-test.false;
      weight = c.loop-i.invariant.kept;
      made = c.loop-i.invariant.made;
    }
