use Rattle.std.proofs.Common.{◌≡◌, ◌<◌, ◌∙◌, ◌++◌, ap, sym, length, append-nil, Option, None, arith}
use Rattle.std.specs.List.{find}
use Rattle.std.specs.Option.{option_to_list}
use Rattle.map_base.specs.declared.ids.LineId.{LineId}
use Rattle.order_model.specs.Places.{first_without_place}
use Rattle.order_model.specs.Prefixes.{is_unplaced}
use Rattle.order_model.proofs.TableLemmas.{IsFirstFree, first_free, none_free}
use Rattle.order_model.proofs.segment_prefix.put_first_unplaced.Goals as goal

pub offset_bounds-lines-i : goal.offset_bounds-lines-i
offset_bounds-lines-i c =
    let few : length c.args.placed.now.items < 4294967295 = omega (arith, c.args.placed.now.ok.0, c.requires.left, c.requires.short) in
    let found : IsFirstFree c.args.lines.now c.args.placed.now.items c.in-Some.i =
    first_free c.args.lines.now c.args.placed.now.items c.in-Some.i few (sym (ap first_without_place (c.deref.ensures.value ∙ c.requires.places)) ∙ sym c.first_unplaced.ensures ∙ c.in-Some.is) in
    omega (arith, found.within, c.requires.short)

pub bounds-lines-i : goal.bounds-lines-i
bounds-lines-i c =
    let few : length c.args.placed.now.items < 4294967295 = omega (arith, c.args.placed.now.ok.0, c.requires.left, c.requires.short) in
    let found : IsFirstFree c.args.lines.now c.args.placed.now.items c.in-Some.i =
    first_free c.args.lines.now c.args.placed.now.items c.in-Some.i few (sym (ap first_without_place (c.deref.ensures.value ∙ c.requires.places)) ∙ sym c.first_unplaced.ensures ∙ c.in-Some.is) in
    found.within

pub push_at-requires-clause-within : goal.push_at-requires-clause-within
push_at-requires-clause-within c =
    let few : length c.args.placed.now.items < 4294967295 = omega (arith, c.args.placed.now.ok.0, c.requires.left, c.requires.short) in
    let found : IsFirstFree c.args.lines.now c.args.placed.now.items c.in-Some.i =
    first_free c.args.lines.now c.args.placed.now.items c.in-Some.i few (sym (ap first_without_place (c.deref.ensures.value ∙ c.requires.places)) ∙ sym c.first_unplaced.ensures ∙ c.in-Some.is) in
    found.within

pub push_at-requires-clause-unplaced : goal.push_at-requires-clause-unplaced
push_at-requires-clause-unplaced c =
    let few : length c.args.placed.now.items < 4294967295 = omega (arith, c.args.placed.now.ok.0, c.requires.left, c.requires.short) in
    let found : IsFirstFree c.args.lines.now c.args.placed.now.items c.in-Some.i =
    first_free c.args.lines.now c.args.placed.now.items c.in-Some.i few (sym (ap first_without_place (c.deref.ensures.value ∙ c.requires.places)) ∙ sym c.first_unplaced.ensures ∙ c.in-Some.is) in
    found.free

pub returns-in-Some-clause-items : goal.returns-in-Some-clause-items
returns-in-Some-clause-items c =
    let few : length c.args.placed.now.items < 4294967295 = omega (arith, c.args.placed.now.ok.0, c.requires.left, c.requires.short) in
    let found : IsFirstFree c.args.lines.now c.args.placed.now.items c.in-Some.i =
    first_free c.args.lines.now c.args.placed.now.items c.in-Some.i few (sym (ap first_without_place (c.deref.ensures.value ∙ c.requires.places)) ∙ sym c.first_unplaced.ensures ∙ c.in-Some.is) in
    c.push_at.ensures.items ∙ sym (ap (λ (o : Option LineId). c.args.placed.now.items ++ option_to_list o) found.line)

pub returns-in_default-clause-items : goal.returns-in_default-clause-items
returns-in_default-clause-items c =
    let few : length c.args.placed.now.items < 4294967295 = omega (arith, c.args.placed.now.ok.0, c.requires.left, c.requires.short) in
    let none : find (is_unplaced c.args.placed.now.items) c.args.lines.now ≡ None =
    none_free c.args.lines.now c.args.placed.now.items few (sym (ap first_without_place (c.deref.ensures.value ∙ c.requires.places)) ∙ sym c.first_unplaced.ensures ∙ c.in_default.is) in
    sym (ap (λ (o : Option LineId). c.args.placed.now.items ++ option_to_list o) none ∙ append-nil c.args.placed.now.items)
