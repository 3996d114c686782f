use Rattle.std.proofs.Common.{◌∙◌, ℕ, Vec, IfOk, subst}
use Rattle.std.specs.Global.{Global}
use Rattle.std.proofs.lemmas.Result.{IfOk-weaker}
use Rattle.graph_maps.specs.Subjects.{Subject}
use Rattle.graph_maps.specs.Readings.{certificate_in}
use Rattle.graph_maps.specs.Checking.{Gives}
use Rattle.graph_maps.specs.Labelling.{labelled_on, IsLabelledOn}
use Rattle.map_engine.specs.Tables.{subject_of}
use Rattle.map_engine.specs.Labelling.{IsLabelledMap}
use Rattle.map_engine.proofs.ImportanceLemmas.{subject_is}
use Rattle.map_engine.proofs.FeedMaps.{labelled_of}
use Rattle.map_engine.proofs.pictures.labels_on_graph.Goals as goal

pub returns-clause-outcome : goal.returns-clause-outcome
returns-clause-outcome c =
    let told = subject_is c.args.tables.now c.args.settings.now c.in_ok-names.names c.as_slice.result.now
    c.in_ok-names.ensures (c.as_slice.ensures.value ∙ c.in_ok-importance.ensures.value) in
    subst (λ (s : Subject). Gives (λ (v : Vec ℕ Global). v.items) c.labels_from.result
    (labelled_on s c.args.settings.now c.args.claim c.args.graph.now (certificate_in c.args.certificate.now))) told
    c.labels_from.ensures.outcome

pub returns-clause-certified : goal.returns-clause-certified
returns-clause-certified c =
    let feed = c.args.tables.now in
    let choices = c.args.settings.now in
    let told = subject_is feed choices c.in_ok-names.names c.as_slice.result.now c.in_ok-names.ensures
    (c.as_slice.ensures.value ∙ c.in_ok-importance.ensures.value) in
    IfOk-weaker c.labels_from.result
    (λ (v : Vec ℕ Global). IsLabelledOn (subject_of feed choices) choices c.args.claim c.args.graph.now v.items
    c.args.certificate.now)
    (λ (v : Vec ℕ Global). IsLabelledMap feed choices c.args.claim v.items c.args.certificate.now)
    (λ v is. labelled_of feed choices c.args.graph.now c.requires.graph c.requires.kept c.args.claim v.items
    c.args.certificate.now is) (subst (λ (s : Subject). IfOk c.labels_from.result
    (λ (v : Vec ℕ Global). IsLabelledOn s choices c.args.claim c.args.graph.now v.items c.args.certificate.now))
    told c.labels_from.ensures.certified)
