use Rattle.std.proofs.Common.{ℕ, List, [], ◌∷◌, ◌++◌, Option, map, unwrap_or, string_bytes, ap, ◌∙◌}
use Rattle.map_base.specs.declared.ids.LineId.{LineId}
use Rattle.graph_core.specs.declared.parts.GraphParts.{GraphParts}
use Rattle.svg_writer.specs.declared.names.Names.{Names}
use Rattle.poster_plan.specs.declared.place.Spot.{Spot}
use Rattle.poster_plan.specs.declared.sign.Sign.{Sign}
use Rattle.poster_plan.specs.Places.{text_spot}
use Rattle.poster_rules.specs.Elements.{texts, Name, RimOfName}
use Rattle.poster_rules.specs.Posters.{ending_of, rim_of}
use Rattle.poster_rules.specs.Stations.{ending}
use Rattle.poster_rules.specs.Texts.{all_rests, printed_at}
use Rattle.poster_picture.specs.Sheets.{plain}
use Rattle.poster_picture.proofs.names.push_printed.Goals as goal

pub returns : goal.returns
returns c =
    let sheet = plain c.args.sheet in
    let p = c.args.printed in
    let m = c.args.mark in
    let old = string_bytes c.args.text.now in
    let whole : Spot → List ℕ → List LineId → List ℕ = λ spot text lines. old ++ texts (rim_of p.step (RimOfName spot p.step text (map (ending_of sheet.names) lines)) ++ Name spot p.step text (map (ending_of sheet.names) lines) ∷ []) in
    let lines = ending sheet.names sheet.graph sheet.callers m.node.0 in
    let text = unwrap_or (printed_at sheet.graph (all_rests sheet.names sheet.graph) m.node.0) [] in
    c.in_ok-push_name.ensures
    ∙ ap (λ (ls : List LineId). whole c.text_spot-spot.result c.text_or_none-name.result.now ls)
    (c.as_slice.ensures.value ∙ c.in_ok-lines.ensures
    ∙ ap (λ (ns : Names). ending ns c.served.result.graph.now c.served.result.callers.now m.node.0) c.served.ensures.names
    ∙ ap (λ (g : GraphParts). ending sheet.names g c.served.result.callers.now m.node.0) c.served.ensures.graph
    ∙ ap (λ (cs : List (List LineId)). ending sheet.names sheet.graph cs m.node.0) c.served.ensures.callers)
    ∙ ap (λ (t : List ℕ). whole c.text_spot-spot.result t lines) (c.text_or_none-name.ensures ∙ ap (λ (o : Option (List ℕ)). unwrap_or o []) c.printed_at.ensures)
    ∙ ap (λ (s : Spot). whole s text lines) (c.text_spot-spot.ensures ∙ ap (λ (s : Sign). text_spot s p.step p.place) c.sign_of.ensures.value)
