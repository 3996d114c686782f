use Rattle.std.proofs.Common.{◌≡◌, ◌∙◌, ℕ, List, Ok, Result, ap, sym, refl, subst}
use Rattle.std.proofs.lemmas.Result.{err_from_is_err_and}
use Rattle.map_base.specs.declared.ids.LineId.{LineId}
use Rattle.order_model.specs.Costs.{AreOrders}
use Rattle.svg_writer.specs.declared.names.Names.{Names}
use Rattle.svg_writer.specs.Picture.{picture_text}
use Rattle.geo_map.specs.GeoMap.{geographic_text}
use Rattle.map_faults.specs.declared.fault.CheckFault.{CheckFault}
use Rattle.graph_maps.specs.Readings.{certificate_in}
use Rattle.graph_maps.specs.Checking.{AcceptedMap, accepted_map, accepted_text, held_by, HasCause}
use Rattle.graph_maps.specs.Promises.{IsAcceptedOn}
use Rattle.graph_maps.proofs.Accepted.{accepted_made, certified_by, refused_made}
use Rattle.map_engine.specs.Tables.{importance_by, names_by, subject_of}
use Rattle.map_engine.proofs.FeedMaps.{certified_of}
use Rattle.map_engine.proofs.pictures.geo_on_graph.Goals as goal

pub geographic-requires-clause-ordered : goal.geographic-requires-clause-ordered
geographic-requires-clause-ordered c =
    let is = c.in_ok-checked.ensures.accepted in
    subst (λ (orders : List (List LineId)). AreOrders c.args.graph.now.lines orders)
    (sym is.shows.orders) is.shows.ordered

pub returns-in_err-checked-clause-outcome : goal.returns-in_err-checked-clause-outcome
returns-in_err-checked-clause-outcome c =
    let feed = c.args.tables.now in
    let choices = c.args.settings.now in
    let graph = c.args.graph.now in
    let read = certificate_in c.args.certificate.now in
    let e = c.in_err-checked.field-0.0 in
    let p = err_from_is_err_and c.from_residual-in_err-checked.result c.from_residual-in_err-checked.ensures.1 in
    let cause = subst (λ (ns : List ℕ). HasCause (accepted_text held_by ns choices c.args.claim graph read) e)
    (c.as_slice.ensures.value ∙ c.in_ok-importance.ensures.value) c.in_err-checked.ensures.outcome in
    rw (p.1, p.2) (refused_made (λ (a : AcceptedMap). geographic_text (names_by feed) graph c.args.lines.now a.orders)
    (importance_by feed choices) choices c.args.claim graph held_by read e cause)

pub returns-clause-outcome : goal.returns-clause-outcome
returns-clause-outcome c =
    let feed = c.args.tables.now in
    let choices = c.args.settings.now in
    let graph = c.args.graph.now in
    let read = certificate_in c.args.certificate.now in
    let a = accepted_map c.in_ok-checked.checked in
    let ok : List ℕ → Result (List ℕ) CheckFault = λ bytes. Ok bytes in
    let accepted = subst (λ (ns : List ℕ). accepted_text held_by ns choices c.args.claim graph read ≡ Ok a)
    (c.as_slice.ensures.value ∙ c.in_ok-importance.ensures.value) c.in_ok-checked.ensures.outcome in
    let drawn = c.in_ok-geographic.ensures
    ∙ ap (λ (ns : Names). geographic_text ns graph c.args.lines.now a.orders) c.in_ok-names.ensures in
    accepted_made (λ (x : AcceptedMap). geographic_text (names_by feed) graph c.args.lines.now x.orders)
    (importance_by feed choices) choices c.args.claim graph held_by read a accepted ∙ ap ok (sym drawn)

pub returns-clause-certified : goal.returns-clause-certified
returns-clause-certified c =
    let feed = c.args.tables.now in
    let choices = c.args.settings.now in
    let graph = c.args.graph.now in
    let a = accepted_map c.in_ok-checked.checked in
    let subject = subject_of feed choices in
    let picture = picture_text subject.names graph a.walks a.orders in
    let is = subst (λ (ns : List ℕ). IsAcceptedOn ns choices c.args.claim graph c.args.certificate.now a)
    (c.as_slice.ensures.value ∙ c.in_ok-importance.ensures.value) c.in_ok-checked.ensures.accepted in
    let drawn = c.in_ok-geographic.ensures
    ∙ ap (λ (ns : Names). geographic_text ns graph c.args.lines.now a.orders) c.in_ok-names.ensures in
    record {
      picture = picture;
      proved = a.proved;
      certified = certified_of feed choices graph c.requires.graph c.requires.kept c.args.claim picture
          c.args.certificate.now a.proved
          (certified_by subject choices c.args.claim graph c.args.certificate.now a is picture refl);
      lines = c.args.lines.now;
      of_feed = c.requires.lines;
      drawn = drawn ∙ ap (λ (orders : List (List LineId)). geographic_text
          (names_by feed) graph c.args.lines.now orders) is.shows.orders;
    }
