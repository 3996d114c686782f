use Rattle.std.proofs.Common.{ap, ◌∙◌, List, set}
use Rattle.map_base.specs.declared.ids.LineId.{LineId}
use Rattle.order_untangle.proofs.WorkLemmas.{merge_known, merge_work}
use Rattle.order_untangle.proofs.work.merged.Goals as goal

pub merged-requires-clause-into : goal.merged-requires-clause-into
merged-requires-clause-into c =
    (merge_known c.args.work.segs.items c.args.work.terms c.args.work.waiting.merges.keys c.args.work.waiting.divides.keys c.args.into c.args.from c.args.flip c.requires.work c.requires.applies).into_known

pub merged-requires-clause-from : goal.merged-requires-clause-from
merged-requires-clause-from c =
    (merge_known c.args.work.segs.items c.args.work.terms c.args.work.waiting.merges.keys c.args.work.waiting.divides.keys c.args.into c.args.from c.args.flip c.requires.work c.requires.applies).from_known

pub with_lines-segs-requires : goal.with_lines-segs-requires
with_lines-segs-requires c =
    (merge_known c.args.work.segs.items c.args.work.terms c.args.work.waiting.merges.keys c.args.work.waiting.divides.keys c.args.into c.args.from c.args.flip c.requires.work c.requires.applies).from_seg

pub returns-clause-work : goal.returns-clause-work
returns-clause-work c =
    (merge_work c.args.work.segs.items c.with_lines-segs.result.items c.args.work.terms c.in_ok-terms.terms
    c.args.work.waiting.merges.keys c.look_again-2.new.waiting.merges.keys c.args.work.waiting.divides.keys c.look_again-2.new.waiting.divides.keys
    c.args.into c.args.from c.args.flip c.requires.work c.requires.applies
    (c.with_lines-segs.ensures ∙ ap (λ (ls : List LineId). set c.args.work.segs.items c.args.from.0 ls) c.new.ensures.items) c.in_ok-terms.ensures
    (record {
      middle_ms = c.look_again.new.waiting.merges.keys;
      middle_ds = c.look_again.new.waiting.divides.keys;
      still = c.in_ok-look_again.ensures.kept;
      links = c.in_ok-look_again.ensures.links;
      segments = c.in_ok-look_again.ensures.divides;
      next_still = c.in_ok-look_again-2.ensures.kept;
      next_links = c.in_ok-look_again-2.ensures.links;
      next_segments = c.in_ok-look_again-2.ensures.divides;
    })).0
