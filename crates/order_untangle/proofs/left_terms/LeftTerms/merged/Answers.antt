use Rattle.std.proofs.Common.{map, not}
use Rattle.std.specs.Prelude.{filter}
use Rattle.order_model.specs.Parts.{is_between}
use Rattle.order_rules.specs.Merging.{moved}
use Rattle.order_untangle.proofs.LeftLemmas.{forgets, known_by, merge_makes}
use Rattle.order_untangle.proofs.left_terms.LeftTerms.merged.Goals as goal

pub forget_dropped-requires : goal.forget_dropped-requires
forget_dropped-requires c =
    known_by (record { count = c.args.self.count; terms = map (moved c.args.into c.args.from c.args.flip) (filter (λ t. not (is_between t c.args.into.0 c.args.from.0)) c.args.self.terms) }) c.merge_cells.new.cells.items c.append_at.new.on.items c.args.into
    (merge_makes c.args.self c.self.inside.cells.items c.merge_cells.new.cells.items c.as_slice-3.result.now c.self.inside.on.items c.taken-numbers.new.on.items c.append_at.new.on.items
    c.taken-numbers.result.items c.as_slice.result.now c.as_slice-2.result.now c.in_ok-kept.kept.items c.as_slice-4.result.now c.args.into c.args.from c.args.flip
    c.self.view_is c.self.invariant c.requires.into c.requires.from c.requires.differ c.taken-numbers.ensures.numbers c.taken-numbers.ensures.others
    c.as_slice.ensures.value c.merge_cells.ensures c.as_slice-2.ensures.value c.as_slice-3.ensures.value c.in_ok-kept.ensures c.as_slice-4.ensures.value c.in_ok-append_at.ensures) c.requires.into

pub invariant_of-result : goal.invariant_of-result
invariant_of-result c =
    (forgets (record { count = c.args.self.count; terms = map (moved c.args.into c.args.from c.args.flip) (filter (λ t. not (is_between t c.args.into.0 c.args.from.0)) c.args.self.terms) }) c.merge_cells.new.cells.items c.as_slice-5.result.now c.append_at.new.on.items c.forget_dropped.new.on.items c.args.into
    (merge_makes c.args.self c.self.inside.cells.items c.merge_cells.new.cells.items c.as_slice-3.result.now c.self.inside.on.items c.taken-numbers.new.on.items c.append_at.new.on.items
    c.taken-numbers.result.items c.as_slice.result.now c.as_slice-2.result.now c.in_ok-kept.kept.items c.as_slice-4.result.now c.args.into c.args.from c.args.flip
    c.self.view_is c.self.invariant c.requires.into c.requires.from c.requires.differ c.taken-numbers.ensures.numbers c.taken-numbers.ensures.others
    c.as_slice.ensures.value c.merge_cells.ensures c.as_slice-2.ensures.value c.as_slice-3.ensures.value c.in_ok-kept.ensures c.as_slice-4.ensures.value c.in_ok-append_at.ensures) c.requires.into c.as_slice-5.ensures.value c.forget_dropped.ensures).listed

pub returns : goal.returns
returns c =
    (forgets (record { count = c.args.self.count; terms = map (moved c.args.into c.args.from c.args.flip) (filter (λ t. not (is_between t c.args.into.0 c.args.from.0)) c.args.self.terms) }) c.merge_cells.new.cells.items c.as_slice-5.result.now c.append_at.new.on.items c.forget_dropped.new.on.items c.args.into
    (merge_makes c.args.self c.self.inside.cells.items c.merge_cells.new.cells.items c.as_slice-3.result.now c.self.inside.on.items c.taken-numbers.new.on.items c.append_at.new.on.items
    c.taken-numbers.result.items c.as_slice.result.now c.as_slice-2.result.now c.in_ok-kept.kept.items c.as_slice-4.result.now c.args.into c.args.from c.args.flip
    c.self.view_is c.self.invariant c.requires.into c.requires.from c.requires.differ c.taken-numbers.ensures.numbers c.taken-numbers.ensures.others
    c.as_slice.ensures.value c.merge_cells.ensures c.as_slice-2.ensures.value c.as_slice-3.ensures.value c.in_ok-kept.ensures c.as_slice-4.ensures.value c.in_ok-append_at.ensures) c.requires.into c.as_slice-5.ensures.value c.forget_dropped.ensures).view
