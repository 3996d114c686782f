use Rattle.std.proofs.Common.{◌≡◌, ◌+◌, ◌-◌, ◌∙◌, ℕ, ap, sym, subst, length, get_or, arith}
use Rattle.std.specs.List.{Contains}
use Rattle.std.proofs.lemmas.List.{get_or_default}
use Rattle.map_base.specs.declared.ids.LineId.{LineId}
use Rattle.order_model.specs.Places.{place_of, places_in}
use Rattle.order_model.proofs.PlaceLemmas.{no_line}
use Rattle.order_model.proofs.TableLemmas.{taken}
use Rattle.order_model.proofs.segment_prefix.take_one.Goals as goal

pub returns-clause-places : goal.returns-clause-places
returns-clause-places c =
    let last : ℕ = c.len-last.result - 1 in
    let whole : last + 1 ≡ length c.args.placed.now.items = omega (arith, c.args.placed.now.ok.0, c.requires.some, c.len-last.ensures) in
    let a : LineId = get_or c.args.placed.now.items last no_line in
    let read : c.index.result.now ≡ a = c.index.ensures ∙ get_or_default c.args.placed.now.items last c.index.result.now no_line (omega (arith, whole)) in
    let on : Contains c.args.lines.now c.index.result.now = subst (Contains c.args.lines.now) (sym read) (c.requires.known last no_line (omega (arith, whole))) in
    let rank : c.rank.result ≡ place_of c.args.lines.now a = c.rank.ensures.place on ∙ ap (place_of c.args.lines.now) read in
    taken c.args.lines.now c.args.placed.now.items c.args.places.now.items last c.rank.result c.requires.rising c.requires.known c.requires.apart whole c.requires.places rank
    ∙ sym (ap (places_in c.args.lines.now) c.truncate.ensures.items)
