use Rattle.std.proofs.Common.{◌∙◌, IfOk, subst}
use Rattle.std.proofs.lemmas.Result.{IfOk-weaker}
use Rattle.graph_maps.specs.Subjects.{Subject}
use Rattle.graph_maps.specs.declared.checked.Checked.{Checked}
use Rattle.graph_maps.specs.Readings.{certificate_in}
use Rattle.graph_maps.specs.Checking.{certificate_on, checked_bytes, Gives}
use Rattle.graph_maps.specs.Promises.{IsCertifiedOn}
use Rattle.map_engine.specs.Tables.{subject_of}
use Rattle.map_engine.specs.Promises.{IsCertified, ShowsLineGraph}
use Rattle.map_engine.proofs.ImportanceLemmas.{subject_is}
use Rattle.map_engine.proofs.FeedMaps.{certified_of, shown_of}
use Rattle.map_engine.proofs.checking.check_on_graph.Goals as goal

pub returns-clause-outcome : goal.returns-clause-outcome
returns-clause-outcome c =
    let told = subject_is c.args.tables.now c.args.settings.now c.in_ok-names.names c.as_slice.result.now
    c.in_ok-names.ensures (c.as_slice.ensures.value ∙ c.in_ok-importance.ensures.value) in
    subst (λ (s : Subject). Gives checked_bytes c.check_from.result
    (certificate_on s c.args.settings.now c.args.claim c.args.graph.now (certificate_in c.args.certificate.now)))
    told c.check_from.ensures.outcome

pub returns-clause-certified : goal.returns-clause-certified
returns-clause-certified c =
    let feed = c.args.tables.now in
    let choices = c.args.settings.now in
    let told = subject_is feed choices c.in_ok-names.names c.as_slice.result.now c.in_ok-names.ensures
    (c.as_slice.ensures.value ∙ c.in_ok-importance.ensures.value) in
    IfOk-weaker c.check_from.result
    (λ (x : Checked). IsCertifiedOn (subject_of feed choices) choices c.args.claim c.args.graph.now x.svg.items
    c.args.certificate.now x.proved)
    (λ (x : Checked). IsCertified feed choices c.args.claim x.svg.items c.args.certificate.now x.proved)
    (λ x is. certified_of feed choices c.args.graph.now c.requires.graph c.requires.kept c.args.claim x.svg.items
    c.args.certificate.now x.proved is) (subst (λ (s : Subject). IfOk c.check_from.result
    (λ (x : Checked). IsCertifiedOn s choices c.args.claim c.args.graph.now x.svg.items c.args.certificate.now
    x.proved)) told c.check_from.ensures.certified)

pub returns-clause-shown : goal.returns-clause-shown
returns-clause-shown c =
    let feed = c.args.tables.now in
    let choices = c.args.settings.now in
    let told = subject_is feed choices c.in_ok-names.names c.as_slice.result.now c.in_ok-names.ensures
    (c.as_slice.ensures.value ∙ c.in_ok-importance.ensures.value) in
    IfOk-weaker c.check_from.result
    (λ (x : Checked). IsCertifiedOn (subject_of feed choices) choices c.args.claim c.args.graph.now x.svg.items
    c.args.certificate.now x.proved) (λ (x : Checked). ShowsLineGraph feed choices c.args.claim x.svg.items x.proved)
    (λ x is. shown_of feed choices c.args.graph.now c.requires.graph c.requires.kept c.args.claim x.svg.items
    c.args.certificate.now x.proved is) (subst (λ (s : Subject). IfOk c.check_from.result
    (λ (x : Checked). IsCertifiedOn s choices c.args.claim c.args.graph.now x.svg.items c.args.certificate.now
    x.proved)) told c.check_from.ensures.certified)
