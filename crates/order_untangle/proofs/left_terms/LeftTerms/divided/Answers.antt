use Rattle.std.proofs.Common.{◌∙◌}
use Rattle.order_untangle.proofs.LeftLemmas.{divide_makes}
use Rattle.order_untangle.proofs.left_terms.LeftTerms.divided.Goals as goal

pub invariant_of-result : goal.invariant_of-result
invariant_of-result c =
    (divide_makes c.args.self c.self.inside.cells.items c.divide_cells.new.cells.items c.as_slice-3.result.now c.as_slice-5.result.now c.self.inside.on.items c.taken-numbers.new.on.items c.append_at.new.on.items c.push.new.self.items
    c.taken-numbers.result.items c.as_slice.result.now c.as_slice-2.result.now c.as_slice-4.result.now c.in_ok-kept.kept.items c.as_slice-6.result.now c.in_ok-sent.sent
    c.args.seg (record { 0 = c.len.result }) c.args.group.now c.args.rest.now
    c.self.view_is c.self.invariant c.requires.seg (c.len.ensures ∙ c.self.inside.on.ok.0) c.taken-numbers.ensures.numbers c.taken-numbers.ensures.others
    c.as_slice.ensures.value c.divide_cells.ensures c.as_slice-2.ensures.value c.as_slice-3.ensures.value c.in_ok-kept.ensures
    c.as_slice-4.ensures.value c.as_slice-5.ensures.value c.in_ok-sent.ensures c.as_slice-6.ensures.value c.in_ok-append_at.ensures c.in_ok-push.ensures.items).listed

pub returns : goal.returns
returns c =
    (divide_makes c.args.self c.self.inside.cells.items c.divide_cells.new.cells.items c.as_slice-3.result.now c.as_slice-5.result.now c.self.inside.on.items c.taken-numbers.new.on.items c.append_at.new.on.items c.push.new.self.items
    c.taken-numbers.result.items c.as_slice.result.now c.as_slice-2.result.now c.as_slice-4.result.now c.in_ok-kept.kept.items c.as_slice-6.result.now c.in_ok-sent.sent
    c.args.seg (record { 0 = c.len.result }) c.args.group.now c.args.rest.now
    c.self.view_is c.self.invariant c.requires.seg (c.len.ensures ∙ c.self.inside.on.ok.0) c.taken-numbers.ensures.numbers c.taken-numbers.ensures.others
    c.as_slice.ensures.value c.divide_cells.ensures c.as_slice-2.ensures.value c.as_slice-3.ensures.value c.in_ok-kept.ensures
    c.as_slice-4.ensures.value c.as_slice-5.ensures.value c.in_ok-sent.ensures c.as_slice-6.ensures.value c.in_ok-append_at.ensures c.in_ok-push.ensures.items).view
