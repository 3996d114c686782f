use Rattle.std.proofs.Common.{arith}
use Rattle.std.proofs.lemmas.Result.{err_from_is_err_and}
use Rattle.order_proof.specs.Forms.{rule_in}
use Rattle.order_proof.specs.FrontLine.{front}
use Rattle.order_proof.specs.Reading.{rules_due, reading}
use Rattle.decimal_text.proofs.Stops.{line_stops}
use Rattle.order_proof.proofs.ReadRules.{rule_taken, rule_stops, rules_end}
use Rattle.order_proof.proofs.reading.read_rules.Goals as goal

pub returns-in_err-rule-clause-follows : goal.returns-in_err-rule-clause-follows
returns-in_err-rule-clause-follows c =
    let p = err_from_is_err_and c.from_residual.result c.from_residual.ensures.1 in
    rw (p.1, p.2) (line_stops c.in_err-rule.field-0.0 c.loop.rest.now (front rule_in c.loop.rest.now) (reading (rules_due c.args.count) c.args.text.now) c.in_err-rule.ensures
    (rule_stops c.args.count c.loop.counter c.loop.rules.items c.args.text.now c.loop.rest.now c.loop-test.true c.loop.invariant))

pub loop-preserved : goal.loop-preserved
loop-preserved c =
    rule_taken c.args.count c.loop.counter c.loop.rules.items c.push.new.self.items c.args.text.now c.loop.rest.now c.in_ok-rule.behind.now c.in_ok-rule.rule c.loop-test.true c.loop.invariant c.in_ok-rule.ensures c.in_ok-push.ensures.items

pub returns-clause-follows : goal.returns-clause-follows
returns-clause-follows c = rules_end c.args.count c.loop.counter c.loop.rules.items c.args.text.now c.loop.rest.now (omega arith) c.loop.invariant
