use Rattle.std.proofs.Common.{◌≡◌, length, map, bytes_eq, Some, false, [], sym, ap, subst, ◌∙◌, arith}
use Rattle.std.specs.List.{IsDistinct}
use Rattle.std.proofs.lemmas.List.{length-map}
use Rattle.table_rows.specs.Ids.{place_among}
use Rattle.transit_feed.specs.declared.line.Line.{Line}
use Rattle.map_edits.specs.Effects.{line_id, colour_is}
use Rattle.map_edits.proofs.ChangeLemmas.{changed_there, changed_nowhere}
use Rattle.map_edits.proofs.changed_lines.colour_line.Goals as goal

pub set_colour-requires : goal.set_colour-requires
set_colour-requires c = omega (arith, c.in-Some.ensures.within, ap length c.requires.ids, length-map c.args.lines.now.items line_id)

pub returns-in-Some : goal.returns-in-Some
returns-in-Some c =
    let any : Line = record { id = []; name = []; colour = []; hidden = false } in
    let found : place_among (map line_id c.args.lines.now.items) c.args.id.now ≡ Some c.in-Some.place =
    ap (λ ids. place_among ids c.args.id.now) (sym c.requires.ids) ∙ sym c.in-Some.ensures.place in
    c.set_colour.ensures any
    ∙ sym (changed_there line_id (colour_is c.args.colour) c.args.id.now c.args.lines.now.items c.in-Some.place any found (subst (IsDistinct bytes_eq) c.requires.ids c.requires.distinct))

pub returns-in-None : goal.returns-in-None
returns-in-None c =
    sym (changed_nowhere line_id (colour_is c.args.colour) c.args.id.now c.args.lines.now.items (ap (λ ids. place_among ids c.args.id.now) (sym c.requires.ids) ∙ sym c.in-None.ensures.place))
