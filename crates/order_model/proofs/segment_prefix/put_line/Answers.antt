use Rattle.std.proofs.Common.{◌≡◌, ◌∙◌, ◌<◌, ap, sym, subst, get_or, length, length-append, [], ◌∷◌, arith}
use Rattle.std.proofs.lemmas.List.{get_or_default}
use Rattle.order_model.proofs.PlaceLemmas.{no_line, line_at_place}
use Rattle.order_model.specs.Prefixes.{with_last, ArePlacedLines}
use Rattle.order_model.proofs.PrefixLemmas.{room_left, placed_with_line}
use Rattle.order_model.proofs.segment_prefix.put_line.Goals as goal

pub push_at-requires-clause-line : goal.push_at-requires-clause-line
push_at-requires-clause-line c =
    let at : get_or c.args.lines.now c.rank.result no_line ≡ c.args.line =
    ap (λ k. get_or c.args.lines.now k no_line) (c.rank.ensures.place c.requires.line) ∙ line_at_place c.args.lines.now c.args.line c.requires.line in
    sym (get_or_default c.args.lines.now c.rank.result c.args.line no_line c.rank.ensures.within ∙ at)

pub push_at-requires-clause-left : goal.push_at-requires-clause-left
push_at-requires-clause-left c =
    omega (arith, c.args.placed.now.ok.0, room_left c.args.lines.now c.args.placed.now.items c.args.line c.requires.fits c.requires.line c.requires.unplaced)

pub push_at-requires-clause-room : goal.push_at-requires-clause-room
push_at-requires-clause-room c =
    omega (arith, c.args.placed.now.ok.0, c.requires.room, room_left c.args.lines.now c.args.placed.now.items c.args.line c.requires.fits c.requires.line c.requires.unplaced)

pub put_last-requires-clause-few : goal.put_last-requires-clause-few
put_last-requires-clause-few c =
    let room : length c.args.placed.now.items < length c.args.lines.now =
    room_left c.args.lines.now c.args.placed.now.items c.args.line c.requires.fits c.requires.line c.requires.unplaced in
    omega (arith, c.push_at.new.placed.ok.0, room, ap length c.push_at.ensures.items, length-append c.args.placed.now.items (c.args.line ∷ []))

pub returns-clause-fits : goal.returns-clause-fits
returns-clause-fits c =
    subst (ArePlacedLines c.args.lines.now) (sym (c.put_last.ensures.items ∙ ap (with_last c.args.lines.now) c.push_at.ensures.items))
    (placed_with_line c.args.lines.now c.args.placed.now.items c.args.line c.requires.rising c.requires.fits c.requires.line c.requires.unplaced)
