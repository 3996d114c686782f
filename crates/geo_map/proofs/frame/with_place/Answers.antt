use Rattle.std.proofs.Common.{◌∙◌, ◌≤◌, sym, ap, subst, unsigned_abs, arith}
use Rattle.std.proofs.lemmas.Int.{ints}
use Rattle.line_offsets.specs.declared.corner.Corner.{Corner}
use Rattle.svg_writer.specs.Picture.{bounds_with_corner}
use Rattle.geo_map.proofs.frame.with_place.Goals as goal

pub drawn-requires : goal.drawn-requires
drawn-requires c = record { across = omega (arith, c.requires.place.across); along = omega (arith, c.requires.place.along) }

pub with_corner-requires-clause-across : goal.with_corner-requires-clause-across
with_corner-requires-clause-across c = subst (λ (q : Corner). unsigned_abs q.x ≤ 1099511627776) (sym c.drawn.ensures) (omega (arith, c.requires.place.across))

pub with_corner-requires-clause-down : goal.with_corner-requires-clause-down
with_corner-requires-clause-down c = subst (λ (q : Corner). unsigned_abs q.y ≤ 1099511627776) (sym c.drawn.ensures) (omega (arith, ints, c.requires.place.along))

pub returns-clause-value : goal.returns-clause-value
returns-clause-value c = c.with_corner.ensures.value ∙ ap (bounds_with_corner c.args.bounds) c.drawn.ensures
