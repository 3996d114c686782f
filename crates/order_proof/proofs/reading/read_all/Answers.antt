use Rattle.std.proofs.Common.{[], ◌∷◌, map, ◌∙◌}
use Rattle.std.proofs.lemmas.Result.{err_from_is_err_and}
use Rattle.order_proof.specs.Plain.{plain_part}
use Rattle.order_proof.specs.FrontLine.{front}
use Rattle.order_proof.specs.Forms.{rules_in, parts_in}
use Rattle.order_proof.specs.Reading.{RuleCount, PartCount, rules_due, parts_due, reading}
use Rattle.decimal_text.proofs.Stops.{line_stops, part_stops, rest_stops}
use Rattle.order_proof.proofs.ReadProofs.{rules_count_stops, rules_count_goes_on, rules_done, parts_count_stops, parts_count_goes_on, proof_read}
use Rattle.order_proof.proofs.reading.read_all.Goals as goal

pub returns-in_err-count-clause-follows : goal.returns-in_err-count-clause-follows
returns-in_err-count-clause-follows c =
    let p = err_from_is_err_and c.from_residual.result c.from_residual.ensures.1 in
    rw (p.1, p.2) (line_stops c.in_err-count.field-0.0 c.args.text.now (front rules_in c.args.text.now) (reading (RuleCount ∷ []) c.args.text.now) c.in_err-count.ensures (rules_count_stops c.args.text.now))

pub returns-in_err-rules-clause-follows : goal.returns-in_err-rules-clause-follows
returns-in_err-rules-clause-follows c =
    let p = err_from_is_err_and c.from_residual-in_err-rules.result c.from_residual-in_err-rules.ensures.1 in
    rw (p.1, p.2) (part_stops c.in_err-rules.field-0.0 (reading (rules_due c.in_ok-count.count) c.in_ok-count.rest.now) (reading (RuleCount ∷ []) c.args.text.now) (reading (PartCount ∷ [])) c.in_err-rules.ensures.follows
    (rules_count_goes_on c.args.text.now c.in_ok-count.count c.in_ok-count.rest.now c.in_ok-count.ensures))

pub returns-in_err-count-2-clause-follows : goal.returns-in_err-count-2-clause-follows
returns-in_err-count-2-clause-follows c =
    let p = err_from_is_err_and c.from_residual-in_err-count-2.result c.from_residual-in_err-count-2.ensures.1 in
    rw (p.1, p.2) (line_stops c.in_err-count-2.field-0.0 c.in_ok-rules.rest.now (front parts_in c.in_ok-rules.rest.now) (reading (RuleCount ∷ []) c.args.text.now) c.in_err-count-2.ensures
    (λ none. rules_done c.args.text.now c.in_ok-count.count c.in_ok-count.rest.now c.in_ok-rules.rest.now c.in_ok-count.ensures c.in_ok-rules.ensures.follows ∙ parts_count_stops c.in_ok-rules.rest.now none))

pub returns-in_err-parts-clause-follows : goal.returns-in_err-parts-clause-follows
returns-in_err-parts-clause-follows c =
    let p = err_from_is_err_and c.from_residual-in_err-parts.result c.from_residual-in_err-parts.ensures.1 in
    rw (p.1, p.2) (rest_stops c.in_err-parts.field-0.0 (reading (parts_due c.in_ok-count-2.count) c.in_ok-count-2.rest.now) (reading (RuleCount ∷ []) c.args.text.now) c.in_err-parts.ensures.follows
    (rules_done c.args.text.now c.in_ok-count.count c.in_ok-count.rest.now c.in_ok-rules.rest.now c.in_ok-count.ensures c.in_ok-rules.ensures.follows ∙ parts_count_goes_on c.in_ok-rules.rest.now c.in_ok-count-2.count c.in_ok-count-2.rest.now c.in_ok-count-2.ensures))

pub returns-clause-follows : goal.returns-clause-follows
returns-clause-follows c =
    rules_done c.args.text.now c.in_ok-count.count c.in_ok-count.rest.now c.in_ok-rules.rest.now c.in_ok-count.ensures c.in_ok-rules.ensures.follows
    ∙ parts_count_goes_on c.in_ok-rules.rest.now c.in_ok-count-2.count c.in_ok-count-2.rest.now c.in_ok-count-2.ensures ∙ c.in_ok-parts.ensures.follows

pub returns-clause-proof : goal.returns-clause-proof
returns-clause-proof c =
    proof_read c.args.text.now c.in_ok-count.count c.in_ok-count.rest.now c.in_ok-rules.rules.items c.in_ok-rules.rest.now c.in_ok-count-2.count c.in_ok-count-2.rest.now (map plain_part c.in_ok-parts.parts.items) c.in_ok-parts.rest.now
    c.in_ok-count.ensures c.in_ok-rules.ensures.rules c.in_ok-count-2.ensures c.in_ok-parts.ensures.parts
