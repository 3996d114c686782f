use Rattle.std.proofs.Common.{◌<◌, subst, ℕ, Option, arith}
use Rattle.std.proofs.lemmas.Result.{IfOk-weaker}
use Rattle.drawing_search.proofs.Common.{scale_of, CameOf, IsLifted, Lifted}
use Rattle.drawing_search.proofs.TriedGroups.{tried_full, tried_none, tried_some}
use Rattle.drawing_search.proofs.trying.Search.try_vector.Goals as goal

pub returns-then-self-most : goal.returns-then-self-most
returns-then-self-most c =
    let f = c.args.field in
    let s = c.args.self.now in
    λ whole taken. tried_full (scale_of f.by) f.graph.now f.first.now c.args.group.now c.args.most c.args.vector whole s.sketch s.weight s.made c.args.lifted taken c.if-self-most.true

pub returns-in-None : goal.returns-in-None
returns-in-None c =
    let f = c.args.field in
    let s = c.args.self.now in
    let room : s.made < c.args.most = omega (arith, c.requires.most, c.if-self-most.false) in
    λ whole taken.
    tried_none (scale_of f.by) f.graph.now f.first.now c.args.group.now c.args.most c.args.vector whole s.sketch s.weight s.made c.args.lifted taken room c.attempt.new.self.sketch c.attempt.new.self.weight c.attempt.new.self.made c.in_ok-attempt.ensures.weight c.in_ok-attempt.ensures.made
    (subst (λ (o : Option ℕ). CameOf (scale_of f.by) f.graph.now f.first.now c.args.group.now c.args.vector whole s.sketch c.attempt.new.self.sketch o) c.in-None.is
    (c.in_ok-attempt.ensures.attempted whole taken.settled c.requires.off.fitting taken.lifted))

pub returns-in-Some : goal.returns-in-Some
returns-in-Some c =
    let f = c.args.field in
    let s = c.args.self.now in
    let room : s.made < c.args.most = omega (arith, c.requires.most, c.if-self-most.false) in
    let new = c.attempt.new.self.sketch in
    let less = c.in-Some.weight in
    IfOk-weaker c.lift.result (λ (next : Lifted). IsLifted (scale_of f.by) f.graph.now f.first.now c.args.group.now new c.lift.new.sketch next) _
    (λ next lifted whole taken.
    tried_some (scale_of f.by) f.graph.now f.first.now c.args.group.now c.args.most c.args.vector whole s.sketch s.weight s.made c.args.lifted taken room new less c.attempt.new.self.made c.in_ok-attempt.ensures.made
    (subst (λ (o : Option ℕ). CameOf (scale_of f.by) f.graph.now f.first.now c.args.group.now c.args.vector whole s.sketch new o) c.in-Some.is (c.in_ok-attempt.ensures.attempted whole taken.settled c.requires.off.fitting taken.lifted))
    c.lift.new.sketch next lifted)
    c.lift.ensures
