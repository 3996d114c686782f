use Rattle.std.proofs.Common.{◌+◌, ◌-◌, sym, ◌∙◌, arith}
use Rattle.dual_orders.specs.SettledPairs.{pairs_of}
use Rattle.kept_trees.specs.Searching.{search_of, ascent_of}
use Rattle.kept_trees.proofs.Composing.{rounds_over, rounds_spent}
use Rattle.kept_trees.proofs.rounds.go_on.Goals as goal

pub returns-in-Over-clause-stage : goal.returns-in-Over-clause-stage
returns-in-Over-clause-stage g c =
    sym c.loop.invariant.rounds_left
    ∙ rounds_over (search_of c.args.search.now) (pairs_of c.args.settled.now) (c.args.most - c.loop.counter)
    (c.args.most - (c.loop.counter + 1)) (ascent_of c.loop.now c.loop.ascent)
    (ascent_of c.one_round.new.now c.one_round.new.ascent) (omega arith) c.in-Over.ensures.stage

pub returns-in-Spent-clause-stage : goal.returns-in-Spent-clause-stage
returns-in-Spent-clause-stage g c =
    sym c.loop.invariant.rounds_left
    ∙ rounds_spent (search_of c.args.search.now) (pairs_of c.args.settled.now) (c.args.most - c.loop.counter)
    (c.args.most - (c.loop.counter + 1)) (ascent_of c.loop.now c.loop.ascent)
    (ascent_of c.one_round.new.now c.one_round.new.ascent) (omega arith) c.in-Spent.ensures.stage
