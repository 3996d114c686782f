use Rattle.std.proofs.Common.{◌≡◌, ◌-◌, ◌+◌, ◌<◌, sym, ◌∙◌, length, take, drop, arith, refl, length-drop}
use Rattle.std.specs.List.{position_or_len}
use Rattle.std.proofs.lemmas.List.{take_all}
use Rattle.gtfs_fields.specs.DegreeText.{is_exponent_mark}
use Rattle.gtfs_fields.proofs.TextParts.{list_any-place, list_any-none, place-le}
use Rattle.gtfs_fields.proofs.degree_text.tens_at.Goals as goal

pub returns-then-mark-text-clause-value : goal.returns-then-mark-text-clause-value
returns-then-mark-text-clause-value c = rw (list_any-none is_exponent_mark c.args.text.now (sym c.requires ∙ c.if-mark-text.true)) refl

pub overflow_add-mark : goal.overflow_add-mark
overflow_add-mark c = omega (arith, place-le is_exponent_mark c.args.text.now c.args.mark c.requires)

pub slice_bounds-exponent_tens-count : goal.slice_bounds-exponent_tens-count
slice_bounds-exponent_tens-count c = omega (arith, place-le is_exponent_mark c.args.text.now c.args.mark c.requires)

pub slice_bounds-exponent_tens-start : goal.slice_bounds-exponent_tens-start
slice_bounds-exponent_tens-start c = omega (arith, place-le is_exponent_mark c.args.text.now c.args.mark c.requires)

pub returns-clause-value : goal.returns-clause-value
returns-clause-value c =
    let text = c.args.text.now in
    let low = place-le is_exponent_mark text c.args.mark c.requires in
    let within : position_or_len is_exponent_mark text < length text = omega (arith, c.requires, c.if-mark-text.false) in
    let rest : take (length text - (c.args.mark + 1)) (drop (c.args.mark + 1) text) ≡ drop (c.args.mark + 1) text = take_all _ _ (omega (arith, length-drop (c.args.mark + 1) text)) in
    c.exponent_tens.ensures.value ∙ rw (list_any-place is_exponent_mark text within, rest, c.requires) refl
