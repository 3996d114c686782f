use Rattle.std.proofs.Common.{◌∙◌, sym, ap, map, length}
use Rattle.std.proofs.lemmas.List.{length-map}
use Rattle.line_graph.specs.StretchTables.{extended}
use Rattle.line_graph.proofs.TableSteps.{each_kept}
use Rattle.line_graph.proofs.stretches.Stretches.with.Goals as goal

pub invariant_of-self : goal.invariant_of-self
invariant_of-self c =
    ap length c.in_ok-place.ensures.keys
    ∙ each_kept c.self.inside.held.keys (map (λ v. v.items) c.self.inside.corridors.items) c.args.stretch c.args.samples.now (c.self.invariant ∙ sym (length-map c.self.inside.corridors.items (λ v. v.items)))
    ∙ ap (λ n. length (extended (map (λ v. v.items) c.self.inside.corridors.items) n c.args.samples.now)) (sym c.in_ok-place.ensures.index) ∙ ap length (sym c.in_ok-extend_at.ensures)
    ∙ length-map c.extend_at.new.corridors.items (λ v. v.items)
