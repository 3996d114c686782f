use Rattle.std.proofs.Common.{◌∙◌, ◌≤◌, sym, ap, subst, unsigned_abs, arith}
use Rattle.std.proofs.lemmas.Int.{ints}
use Rattle.line_offsets.specs.declared.corner.Corner.{Corner}
use Rattle.geo_map.specs.GeoMap.{drawn}
use Rattle.geo_map.proofs.plane.centre_of.Goals as goal

pub returns-clause-value : goal.returns-clause-value
returns-clause-value c = c.drawn.ensures ∙ ap drawn c.place_of.ensures.value

pub returns-clause-across : goal.returns-clause-across
returns-clause-across c = subst (λ (q : Corner). unsigned_abs q.x ≤ 1099511627776) (sym c.drawn.ensures) (omega (arith, c.place_of.ensures.near.across))

pub returns-clause-down : goal.returns-clause-down
returns-clause-down c = subst (λ (q : Corner). unsigned_abs q.y ≤ 1099511627776) (sym c.drawn.ensures) (omega (arith, ints, c.place_of.ensures.near.along))
