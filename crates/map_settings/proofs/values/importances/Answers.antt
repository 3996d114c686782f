use Rattle.std.proofs.Common.{◌≡◌, ◌<◌, ◌≤◌, ◌∷◌, length, map, Some, ap, sym, ◌∙◌, arith}
use Rattle.map_settings.specs.Values.{of_each, importance_at}
use Rattle.map_settings.proofs.EachLemmas.{with_rest}
use Rattle.map_settings.proofs.TableLemmas.{entry_view}
use Rattle.map_settings.proofs.ImportanceLemmas.{Entry, too_many, few, importances-more, ranges-more, importances-stop, importances-end, rising}
use Rattle.map_settings.proofs.values.importances.Goals as goal

pub returns-then-len-gt-MOST_IMPORTANCES-clause-value : goal.returns-then-len-gt-MOST_IMPORTANCES-clause-value
returns-then-len-gt-MOST_IMPORTANCES-clause-value c =
    let above : 1000 < length c.args.lines.now.entries = omega (arith, c.len.ensures.len, c.if-len-gt-MOST_IMPORTANCES.true) in
    too_many c.args.lines.now.entries above

pub loop-id-preserved : goal.loop-id-preserved
loop-id-preserved c =
    let entry : Entry = (c.in-Some.id.now, c.in-Some.number.now) in
    let left = c.next.new.self in
    let (ranges, before) = c.loop-id.invariant in
    let steps : c.loop-id.id-iterator ≡ entry ∷ left = c.in-Some.ensures.steps in
    let pushed = c.in_ok-push-in-Some-whole_number.ensures.items in (
      ranges-more c.loop-id.pairs.items c.push.new.self.items c.in_ok-of-in-Some-whole_number.field-0 c.in-Some-whole_number.importance pushed ranges c.in-Some-whole_number.ensures.range,
      importances-more c.loop-id.pairs.items entry left c.in_ok-of-in-Some-whole_number.field-0 c.in-Some-whole_number.importance c.push.new.self.items _ (c.in_ok-of-in-Some-whole_number.ensures ∙ c.as_str.ensures.value) c.in-Some-whole_number.ensures.value pushed (sym (ap (λ es. with_rest c.loop-id.pairs.items (of_each importance_at (map entry_view es))) steps) ∙ before),
    )

pub returns-in-None-whole_number-clause-value : goal.returns-in-None-whole_number-clause-value
returns-in-None-whole_number-clause-value c =
    let entry : Entry = (c.in-Some.id.now, c.in-Some.number.now) in
    let left = c.next.new.self in
    let steps : c.loop-id.id-iterator ≡ entry ∷ left = c.in-Some.ensures.steps in
    let within : length c.args.lines.now.entries ≤ 1000 = omega (arith, c.len.ensures.len, c.if-len-gt-MOST_IMPORTANCES.false) in
    importances-stop c.loop-id.pairs.items entry left c.args.lines.now.entries within c.in-None-whole_number.ensures.value
    (sym (ap (λ es. with_rest c.loop-id.pairs.items (of_each importance_at (map entry_view es))) steps) ∙ c.loop-id.invariant.1)

pub returns-clause-value : goal.returns-clause-value
returns-clause-value c =
    let within : length c.args.lines.now.entries ≤ 1000 = omega (arith, c.len.ensures.len, c.if-len-gt-MOST_IMPORTANCES.false) in
    few c.args.lines.now.entries within
    ∙ importances-end c.loop-id.pairs.items c.loop-id.id-iterator c.args.lines.now.entries c.in-None.ensures.steps.0 c.loop-id.invariant.1
    ∙ ap Some (sym c.of-2.ensures)

pub returns-clause-ids : goal.returns-clause-ids
returns-clause-ids c =
    rising c.args.lines.now.entries c.of-2.result
    (importances-end c.loop-id.pairs.items c.loop-id.id-iterator c.args.lines.now.entries c.in-None.ensures.steps.0 c.loop-id.invariant.1 ∙ ap Some (sym c.of-2.ensures))
    c.iter-id-items.ensures.ordered
