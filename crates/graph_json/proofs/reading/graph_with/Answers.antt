use Rattle.std.proofs.Common.{◌≡◌, sym, ap₂, subst, ◌∙◌, ◌<◌, ◌^◌, length, arith}
use Rattle.std.specs.Prelude.{None}
use Rattle.graph_json.specs.Limits.{limit_met}
use Rattle.graph_json.specs.References.{broken_from}
use Rattle.graph_json.specs.Outcome.{IsComplete}
use Rattle.graph_json.proofs.Assembly.{few_ends, parts_consistent, read_complete}
use Rattle.graph_json.proofs.reading.graph_with.Goals as goal

pub broken-requires : goal.broken-requires
broken-requires c =
    let columns = c.in_ok-columns.columns in
    let features = c.args.features.items in
    let limits : limit_met columns.lines.items columns.names.items ≡ None =
    ap₂ limit_met (sym c.deref.ensures.value) (sym c.deref-2.ensures.value) ∙ sym c.in_ok-limit.ensures ∙ c.in_default.is in
    record { few = few_ends columns c.args.lines.items features c.in_ok-columns.ensures limits c.in_ok-made.made.parts (c.in_ok-made.ensures.parts features c.in_ok-columns.ensures) }

pub with_names-requires : goal.with_names-requires
with_names-requires c =
    let columns = c.in_ok-columns.columns in
    let features = c.args.features.items in
    let made = c.in_ok-made.made in
    let limits : limit_met columns.lines.items columns.names.items ≡ None =
    ap₂ limit_met (sym c.deref.ensures.value) (sym c.deref-2.ensures.value) ∙ sym c.in_ok-limit.ensures ∙ c.in_default.is in
    let listed : c.len-2.result ≡ length c.args.lines.items = omega (arith, c.len-2.ensures, c.args.lines.ok) in
    let sound : broken_from made.parts (length c.args.lines.items) 0 0 0 made.are_nodes.items ≡ None =
    ap₂ (λ n nodes. broken_from made.parts n 0 0 0 nodes) (sym listed) (sym c.deref-3.ensures.value) ∙ sym c.broken.ensures ∙ c.in_default-broken.is in
    parts_consistent columns c.args.lines.items features c.in_ok-columns.ensures limits made.parts (c.in_ok-made.ensures.parts features c.in_ok-columns.ensures)
    made.are_nodes.items c.in_ok-made.ensures.are_nodes sound c.requires.features

pub returns-clause-complete : goal.returns-clause-complete
returns-clause-complete c =
    let columns = c.in_ok-columns.columns in
    let features = c.args.features.items in
    let made = c.in_ok-made.made in
    let limits : limit_met columns.lines.items columns.names.items ≡ None =
    ap₂ limit_met (sym c.deref.ensures.value) (sym c.deref-2.ensures.value) ∙ sym c.in_ok-limit.ensures ∙ c.in_default.is in
    let listed : c.len-2.result ≡ length c.args.lines.items = omega (arith, c.len-2.ensures, c.args.lines.ok) in
    let few : length c.args.lines.items < 2 ^ 32 = omega (arith, c.if-len-ge4294967296.false, c.len.ensures, c.args.lines.ok) in
    let sound : broken_from made.parts (length c.args.lines.items) 0 0 0 made.are_nodes.items ≡ None =
    ap₂ (λ n nodes. broken_from made.parts n 0 0 0 nodes) (sym listed) (sym c.deref-3.ensures.value) ∙ sym c.broken.ensures ∙ c.in_default-broken.is in
    subst IsComplete (sym c.in_ok-with_names.ensures)
    (read_complete columns c.args.lines.items features c.in_ok-columns.ensures limits made.parts (c.in_ok-made.ensures.parts features c.in_ok-columns.ensures)
    made.are_nodes.items c.in_ok-made.ensures.are_nodes sound c.requires.features made.stations.items c.in_ok-made.ensures.stations few c.requires.lines)
