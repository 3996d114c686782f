use Rattle.std.proofs.Common.{codes, [], ◌∷◌, ◌∙◌}
use Rattle.std.proofs.lemmas.Result.{err_from_is_err_and}
use Rattle.decimal_text.specs.Reading.{reading}
use Rattle.decimal_text.proofs.Stops.{line_stops, rest_stops}
use Rattle.cert_file.specs.Forms.{version_of, counts_of, spoken_front}
use Rattle.cert_file.specs.Reading.{Version, after, rest_due}
use Rattle.cert_file.proofs.Heads.{version_stops, version_goes_on, version_range, counts_stop, counts_go_on, head_read}
use Rattle.cert_file.proofs.whole.read_head.Goals as goal

pub returns-in_err-version-clause-follows : goal.returns-in_err-version-clause-follows
returns-in_err-version-clause-follows c =
    let p = err_from_is_err_and c.from_residual.result c.from_residual.ensures.1 in
    rw (p.1, p.2) (line_stops c.in_err-version.field-0.0 c.args.text.now (spoken_front (codes "octimap") version_of c.args.text.now) (reading after (Version ∷ []) c.args.text.now) c.in_err-version.ensures (version_stops c.args.text.now))

pub returns-in_err-counts-clause-follows : goal.returns-in_err-counts-clause-follows
returns-in_err-counts-clause-follows c =
    let p = err_from_is_err_and c.from_residual-in_err-counts.result c.from_residual-in_err-counts.ensures.1 in
    let one = c.in_ok-version.rest.now in
    rw (p.1, p.2) (line_stops c.in_err-counts.field-0.0 one (spoken_front (codes "graph") counts_of one) (reading after (Version ∷ []) c.args.text.now) c.in_err-counts.ensures
    (λ none. version_goes_on c.args.text.now c.in_ok-version.version one c.in_ok-version.ensures ∙ counts_stop c.in_ok-version.version one none))

pub read_body-requires : goal.read_body-requires
read_body-requires c = version_range c.args.text.now c.in_ok-version.version c.in_ok-version.rest.now c.in_ok-version.ensures

pub returns-in_err-body-clause-follows : goal.returns-in_err-body-clause-follows
returns-in_err-body-clause-follows c =
    let p = err_from_is_err_and c.from_residual-in_err-body.result c.from_residual-in_err-body.ensures.1 in
    let one = c.in_ok-version.rest.now in
    let two = c.in_ok-counts.rest.now in
    rw (p.1, p.2) (rest_stops c.in_err-body.field-0.0 (reading after (rest_due c.in_ok-version.version c.in_ok-counts.counts.segs) two) (reading after (Version ∷ []) c.args.text.now) c.in_err-body.ensures.follows
    (version_goes_on c.args.text.now c.in_ok-version.version one c.in_ok-version.ensures ∙ counts_go_on c.in_ok-version.version one c.in_ok-counts.counts two c.in_ok-counts.ensures))

pub returns-clause-follows : goal.returns-clause-follows
returns-clause-follows c =
    let one = c.in_ok-version.rest.now in
    let two = c.in_ok-counts.rest.now in
    version_goes_on c.args.text.now c.in_ok-version.version one c.in_ok-version.ensures
    ∙ counts_go_on c.in_ok-version.version one c.in_ok-counts.counts two c.in_ok-counts.ensures
    ∙ c.in_ok-body.ensures.follows

pub returns-clause-head : goal.returns-clause-head
returns-clause-head c =
    let b = c.in_ok-body.body in
    head_read c.in_ok-version.version c.in_ok-counts.counts b.importance.items b.walks.items b.orders.items b.cost c.args.text.now c.in_ok-version.rest.now c.in_ok-counts.rest.now c.in_ok-body.rest.now
    c.in_ok-version.ensures c.in_ok-counts.ensures c.in_ok-body.ensures.body
