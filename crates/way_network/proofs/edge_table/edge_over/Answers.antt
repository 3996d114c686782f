use Rattle.std.proofs.Common.{◌≡◌, ◌∙◌, sym, ap, subst, map}
use Rattle.map_base.specs.declared.ids.LineId.{LineId}
use Rattle.way_network.specs.Uses.{AreThose, is_run_by}
use Rattle.way_network.specs.Segments.{line_numbered}
use Rattle.way_network.proofs.UseOrder.{numbers_of_numbered}
use Rattle.way_network.proofs.edge_table.edge_over.Goals as goal

pub returns-clause-lines : goal.returns-clause-lines
returns-clause-lines c =
    let is : c.of.result ≡ map line_numbered c.in_ok-numbers.numbers.items = c.of.ensures ∙ c.in_ok-lines.ensures ∙ ap (map line_numbered) c.deref.ensures.value in
    subst (AreThose (is_run_by c.args.uses.now c.args.p c.args.q)) (sym (ap (map (λ (line : LineId). line.0)) is ∙ numbers_of_numbered c.in_ok-numbers.numbers.items)) c.in_ok-numbers.ensures
