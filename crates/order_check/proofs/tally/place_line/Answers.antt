use Rattle.std.proofs.Common.{List, sym, subst, refl, arith}
use Rattle.map_base.specs.declared.ids.LineId.{LineId}
use Rattle.order_model.specs.Problems.{lines_on}
use Rattle.order_model.specs.Completions.{placed_more}
use Rattle.order_check.specs.Placings.{placing_of, changes}
use Rattle.order_check.specs.Counting.{IsTallyWithout}
use Rattle.order_check.proofs.Tallies.{without_placed, case_those}
use Rattle.order_check.proofs.tally.place_line.Goals as goal

-- the terms that the placing may change are picked
pub take_off-beside-requires-clause-picked : goal.take_off-beside-requires-clause-picked
take_off-beside-requires-clause-picked c =
    let asked = c.args.asked.now in
    let those = case_those asked c.args.prefix.now.placed c.args.seg c.args.line c.placing_of-placing.result c.as_slice-some.result.now c.in_ok-changed.changed.items c.requires.asked c.placing_of-placing.ensures
    c.in_ok-changed.ensures c.as_slice-some.ensures.value in
    (changes (placing_of asked.problem.now.segs c.args.prefix.now.placed c.args.seg c.args.line) (lines_on asked.problem.now.segs c.args.seg) (lines_on c.args.prefix.now.placed c.args.seg), those)

pub put_on-requires-clause-picked : goal.put_on-requires-clause-picked
put_on-requires-clause-picked c =
    let asked = c.args.asked.now in
    let those = case_those asked c.args.prefix.now.placed c.args.seg c.args.line c.placing_of-placing.result c.as_slice-some.result.now c.in_ok-changed.changed.items c.requires.asked c.placing_of-placing.ensures
    c.in_ok-changed.ensures c.as_slice-some.ensures.value in
    (changes (placing_of asked.problem.now.segs c.args.prefix.now.placed c.args.seg c.args.line) (lines_on asked.problem.now.segs c.args.seg) (lines_on c.args.prefix.now.placed c.args.seg), those)

-- the tally of the others, once the line is placed
pub put_on-requires-clause-tally : goal.put_on-requires-clause-tally
put_on-requires-clause-tally c =
    let s = c.args.seg in
    let asked = c.args.asked.now in
    let placed : List (List LineId) = c.args.prefix.now.placed in
    let those = case_those asked placed s c.args.line c.placing_of-placing.result c.as_slice-some.result.now c.in_ok-changed.changed.items c.requires.asked c.placing_of-placing.ensures
    c.in_ok-changed.ensures c.as_slice-some.ensures.value in
    subst (λ (l : List (List LineId)). IsTallyWithout c.as_slice-some.result.now asked l c.take_off-beside.result c.take_off-beside.new.costs) (sym c.place.ensures.placed)
    (without_placed s c.args.line asked placed (placed_more asked.problem.now.segs placed s c.args.line) c.requires.asked (omega (arith, c.requires.seg, c.requires.fits.each)) (c.requires.fits.lines s.0 c.requires.seg)
    c.requires.line c.requires.unplaced refl c.as_slice-some.result.now c.take_off-beside.result c.take_off-beside.new.costs those c.take_off-beside.ensures)
