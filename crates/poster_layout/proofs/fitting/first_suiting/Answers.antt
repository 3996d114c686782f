use Rattle.std.proofs.Common.{◌≡◌, ◌+◌, ◌*◌, length, ap, ◌∙◌, arith}
use Rattle.poster_plan.specs.Placing.{named}
use Rattle.poster_layout.proofs.Choosing.{first_end, first_here, first_none, first_past, found_none, found_some}
use Rattle.poster_layout.proofs.fitting.first_suiting.Goals as goal

pub loop-i-init : goal.loop-i-init
loop-i-init c = first_none c.args.plan.now

pub loop-i-preserved : goal.loop-i-preserved
loop-i-preserved c = first_past c.args.plan.now c.loop-i.i (omega arith) (found_none c.args.plan.now (20 + 4 * c.loop-i.i) c.in_ok-found.found c.in-None.is c.in_ok-found.ensures) c.loop-i.invariant

pub returns-in-Some-clause-pitch : goal.returns-in-Some-clause-pitch
returns-in-Some-clause-pitch c =
    let found = found_some c.args.plan.now (20 + 4 * c.loop-i.i) c.in_ok-found.found c.in-Some.laid c.in-Some.is c.in_ok-found.ensures in
    found.1 ∙ first_here c.args.plan.now c.loop-i.i (omega arith) found.2 c.loop-i.invariant

pub returns-in-Some-clause-laid : goal.returns-in-Some-clause-laid
returns-in-Some-clause-laid c = (found_some c.args.plan.now (20 + 4 * c.loop-i.i) c.in_ok-found.found c.in-Some.laid c.in-Some.is c.in_ok-found.ensures).0

pub suiting_at-requires-clause-names : goal.suiting_at-requires-clause-names
suiting_at-requires-clause-names c =
    let count : c.len-names.result ≡ length c.in_ok-numbers.numbers.items = omega (arith, c.len-names.ensures, c.in_ok-numbers.numbers.ok.0) in
    count ∙ ap length (c.in_ok-numbers.ensures ∙ ap named c.as_slice.ensures)

pub returns-clause-pitch : goal.returns-clause-pitch
returns-clause-pitch c = c.in_ok-laid.ensures.pitch ∙ first_end c.args.plan.now c.loop-i.i (omega arith) c.loop-i.invariant

pub returns-clause-laid : goal.returns-clause-laid
returns-clause-laid c = c.in_ok-laid.ensures.laid
