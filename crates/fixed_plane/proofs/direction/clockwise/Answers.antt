use Rattle.std.proofs.Common.{◌≡◌, sym, ◌∙◌, ap, pos, to_z, of_z, w64, FitsSigned}
use Rattle.std.specs.Ordering.{int_cmp, nat_cmp, ordering_then}
use Rattle.std.proofs.lemmas.Int.{to_z-of_z}
use Rattle.std.proofs.lemmas.Cmp.{on_total}
use Rattle.whole_algebra.specs.Turns.{cross_of}
use Rattle.fixed_plane.specs.Directions.{way_of, half_of, clockwise_of}
use Rattle.fixed_plane.proofs.Rounds.{clockwise_of_total, one_way-equal, clockwise_of-one_way, nat_cmp-halves, half_of-apart}
use Rattle.fixed_plane.proofs.direction.clockwise.Goals as goal

pub returns-clause-value : goal.returns-clause-value
returns-clause-value c =
    let to_a = c.way-to_a.result in
    let to_b = c.way-to_b.result in
    let halves = nat_cmp-halves c.is_western.result c.is_western-2.result (half_of to_a) (half_of to_b) c.is_western.ensures c.is_western-2.ensures in
    let fits : FitsSigned w64 c.cross.result = record { sfits = c.cross.type_inv } in
    let area : to_z w64 (of_z w64 c.cross.result) ≡ cross_of to_a.x to_a.y to_b.x to_b.y = to_z-of_z w64 c.cross.result fits ∙ c.cross.ensures in
    c.then.ensures ∙ ap (λ o. ordering_then o c.cmp-2.result) (c.cmp.ensures ∙ halves)
    ∙ ap (λ o. ordering_then (nat_cmp (half_of to_a) (half_of to_b)) o) (c.cmp-2.ensures ∙ ap (λ z. int_cmp z (pos 0)) area)
    ∙ ap (λ w. clockwise_of w to_b) c.way-to_a.ensures.value
    ∙ ap (λ w. clockwise_of (way_of c.args.from c.args.a) w) c.way-to_b.ensures.value

pub returns-clause-one_direction : goal.returns-clause-one_direction
returns-clause-one_direction c =
    let to_a = way_of c.args.from c.args.a in
    let to_b = way_of c.args.from c.args.b in (
      λ e. one_way-equal to_a to_b (half_of-apart c.args.from c.args.a c.requires.a_apart) (sym (returns-clause-value c) ∙ e),
      λ w. returns-clause-value c ∙ clockwise_of-one_way to_a to_b w,
    )

pub returns-clause-total : goal.returns-clause-total
returns-clause-total c = on_total (way_of c.args.from) clockwise_of_total
