use Rattle.std.proofs.Common.{refl, sym, ◌∙◌, arith}
use Rattle.std.specs.List.{find}
use Rattle.std.proofs.lemmas.List.{at_drop_all}
use Rattle.label_place.specs.declared.place.Place.TheVariants as place
use Rattle.label_place.specs.Places.{all_places}
use Rattle.label_place.specs.Signs.{is_free}
use Rattle.label_place.proofs.Held.{find_past, find_here}
use Rattle.label_place.proofs.placing.first_free.Goals as goal

pub loop-place-init : goal.loop-place-init
loop-place-init c = refl

pub loop-place-preserved : goal.loop-place-preserved
loop-place-preserved c =
    find_past (is_free c.args.grid.now c.args.sign) all_places c.loop-place.place-index place.NE c.loop-place-test.true (sym c.is_free.ensures ∙ c.if-is_free.false) ∙ c.loop-place.invariant

pub returns-then-is_free : goal.returns-then-is_free
returns-then-is_free c =
    sym (find_here (is_free c.args.grid.now c.args.sign) all_places c.loop-place.place-index place.NE c.loop-place-test.true (sym c.is_free.ensures ∙ c.if-is_free.true)) ∙ c.loop-place.invariant

pub returns : goal.returns
returns c = sym (at_drop_all (find (is_free c.args.grid.now c.args.sign)) all_places c.loop-place.place-index (omega arith)) ∙ c.loop-place.invariant
