use Rattle.std.proofs.Common.{◌≡◌, ◌-◌, w64, to_z, of_z, ◌∙◌}
use Rattle.std.specs.Prelude.{pos, ◌-ℤ◌}
use Rattle.std.proofs.lemmas.Int.{to_z-of_z}
use Rattle.dual_ascent.specs.Averages.{always}
use Rattle.dual_orders.proofs.Adding.{distance_added}
use Rattle.dual_orders.proofs.averaged.add_distance.Goals as goal

pub returns-clause-added : goal.returns-clause-added
returns-clause-added c =
    let often : to_z w64 (of_z w64 c.from.result) ≡ pos c.args.average.swapped = to_z-of_z w64 c.from.result
    (record { sfits = c.from.type_inv }) ∙ c.from.ensures in
    let rarely : to_z w64 (of_z w64 c.from-2.result) ≡ pos (always - c.args.average.swapped) = to_z-of_z w64
    c.from-2.result (record { sfits = c.from-2.type_inv }) ∙ c.from-2.ensures in
    let together : to_z w64 (of_z w64 c.nearness.result) ≡ pos 32768 -ℤ pos c.args.average.beside = to_z-of_z w64
    c.nearness.result (record { sfits = c.nearness.type_inv }) ∙ c.nearness.ensures.value in
    distance_added c.args.lines.now c.args.average (to_z w64 (of_z w64 c.from.result))
    (to_z w64 (of_z w64 c.from-2.result)) (to_z w64 (of_z w64 c.nearness.result)) c.args.rows.now c.add_before.new.self
    c.add_before-2.new.self
    c.add_beside.new.self often rarely together c.add_before.ensures.added c.add_before-2.ensures.added
    c.add_beside.ensures.added
