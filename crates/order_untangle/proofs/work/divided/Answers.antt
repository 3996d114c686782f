use Rattle.std.proofs.Common.{ap, ◌∙◌, List, [], ◌∷◌, ◌++◌, set}
use Rattle.map_base.specs.declared.ids.LineId.{LineId}
use Rattle.order_model.specs.Problems.{lines_on}
use Rattle.order_rules.specs.Dividing.{others}
use Rattle.order_untangle.proofs.WorkLemmas.{divide_work, divided_listing}
use Rattle.order_untangle.proofs.work.divided.Goals as goal

pub returns-clause-parts : goal.returns-clause-parts
returns-clause-parts c =
    (divide_work c.args.work.segs.items c.push.new.self.items c.args.work.terms c.in_ok-terms.terms
    c.args.work.waiting.merges.keys c.look_again-2.new.waiting.merges.keys c.args.work.waiting.divides.keys c.look_again-2.new.waiting.divides.keys
    c.args.seg (record { 0 = c.len.result }) c.args.group.now c.in_ok-rest.rest.items c.requires.work c.requires.applies
    (c.len.ensures ∙ c.args.work.segs.ok.0)
    (c.in_ok-rest.ensures ∙ ap (λ (ls : List LineId). others ls c.args.group.now) (c.lines_on.ensures ∙ ap (λ (ss : List (List LineId)). lines_on ss c.args.seg) c.as_slice.ensures.value))
    (c.in_ok-push.ensures.items ∙ (ap (λ (ls : List LineId). c.with_lines-segs.result.items ++ ls ∷ []) c.of.ensures
    ∙ ap (λ (ss : List (List LineId)). ss ++ c.in_ok-rest.rest.items ∷ []) (c.with_lines-segs.ensures ∙ ap (λ (ls : List LineId). set c.args.work.segs.items c.args.seg.0 ls) c.in_ok-from_slice.ensures.items)))
    (c.in_ok-terms.ensures ∙ ap (λ (ls : List LineId). divided_listing c.args.work.terms c.args.seg c.args.group.now ls) c.as_slice-2.ensures.value)
    (record {
      middle_ms = c.look_again.new.waiting.merges.keys;
      middle_ds = c.look_again.new.waiting.divides.keys;
      still = c.in_ok-look_again.ensures.kept;
      links = c.in_ok-look_again.ensures.links;
      segments = c.in_ok-look_again.ensures.divides;
      next_still = c.in_ok-look_again-2.ensures.kept;
      next_links = c.in_ok-look_again-2.ensures.links;
      next_segments = c.in_ok-look_again-2.ensures.divides;
    })).1

pub returns-clause-work : goal.returns-clause-work
returns-clause-work c =
    (divide_work c.args.work.segs.items c.push.new.self.items c.args.work.terms c.in_ok-terms.terms
    c.args.work.waiting.merges.keys c.look_again-2.new.waiting.merges.keys c.args.work.waiting.divides.keys c.look_again-2.new.waiting.divides.keys
    c.args.seg (record { 0 = c.len.result }) c.args.group.now c.in_ok-rest.rest.items c.requires.work c.requires.applies
    (c.len.ensures ∙ c.args.work.segs.ok.0)
    (c.in_ok-rest.ensures ∙ ap (λ (ls : List LineId). others ls c.args.group.now) (c.lines_on.ensures ∙ ap (λ (ss : List (List LineId)). lines_on ss c.args.seg) c.as_slice.ensures.value))
    (c.in_ok-push.ensures.items ∙ (ap (λ (ls : List LineId). c.with_lines-segs.result.items ++ ls ∷ []) c.of.ensures
    ∙ ap (λ (ss : List (List LineId)). ss ++ c.in_ok-rest.rest.items ∷ []) (c.with_lines-segs.ensures ∙ ap (λ (ls : List LineId). set c.args.work.segs.items c.args.seg.0 ls) c.in_ok-from_slice.ensures.items)))
    (c.in_ok-terms.ensures ∙ ap (λ (ls : List LineId). divided_listing c.args.work.terms c.args.seg c.args.group.now ls) c.as_slice-2.ensures.value)
    (record {
      middle_ms = c.look_again.new.waiting.merges.keys;
      middle_ds = c.look_again.new.waiting.divides.keys;
      still = c.in_ok-look_again.ensures.kept;
      links = c.in_ok-look_again.ensures.links;
      segments = c.in_ok-look_again.ensures.divides;
      next_still = c.in_ok-look_again-2.ensures.kept;
      next_links = c.in_ok-look_again-2.ensures.links;
      next_segments = c.in_ok-look_again-2.ensures.divides;
    })).0
