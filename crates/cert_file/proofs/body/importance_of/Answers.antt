use Rattle.std.proofs.Common.{codes}
use Rattle.std.proofs.lemmas.Result.{err_from_is_err_and}
use Rattle.decimal_text.specs.Reading.{reading}
use Rattle.decimal_text.proofs.Stops.{line_stops}
use Rattle.cert_file.specs.Forms.{importance_of, spoken_front}
use Rattle.cert_file.specs.Reading.{after, importance_due}
use Rattle.cert_file.proofs.Bodies.{importance_stops, importance_goes_on, importance_none, importance_read}
use Rattle.cert_file.proofs.body.importance_of.Goals as goal

pub returns-then-version-ne2-clause-follows : goal.returns-then-version-ne2-clause-follows
returns-then-version-ne2-clause-follows c = importance_none c.args.version c.args.text.now c.if-version-ne2.true

pub returns-in_err-importance-clause-follows : goal.returns-in_err-importance-clause-follows
returns-in_err-importance-clause-follows c =
    let p = err_from_is_err_and c.from_residual.result c.from_residual.ensures.1 in
    rw (p.1, p.2) (line_stops c.in_err-importance.field-0.0 c.args.text.now (spoken_front (codes "importance") importance_of c.args.text.now) (reading after (importance_due c.args.version) c.args.text.now) c.in_err-importance.ensures
    (importance_stops c.args.version c.args.text.now c.if-version-ne2.false))

pub returns-clause-follows : goal.returns-clause-follows
returns-clause-follows c = importance_goes_on c.args.version c.args.text.now c.in_ok-importance.importance.items c.in_ok-importance.rest.now c.if-version-ne2.false c.in_ok-importance.ensures

pub returns-clause-importance : goal.returns-clause-importance
returns-clause-importance c = importance_read c.args.version c.args.text.now c.in_ok-importance.importance.items c.in_ok-importance.rest.now c.if-version-ne2.false c.in_ok-importance.ensures
