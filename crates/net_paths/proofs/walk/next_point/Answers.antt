use Rattle.std.proofs.Common.{refl, sym, ◌∙◌, subst, ℕ, Option, ◌<◌, length, get_or, below_more, arith}
use Rattle.std.proofs.lemmas.Bool.{iff_false}
use Rattle.net_paths.specs.Searching.{known_at}
use Rattle.net_paths.specs.Walking.{DifferBy, KeepsCost}
use Rattle.net_paths.proofs.CostTables.{cost_at}
use Rattle.net_paths.proofs.Spreading.{edge_in_range}
use Rattle.net_paths.proofs.Walked.{least_at, none_keeps}
use Rattle.net_paths.proofs.walk.next_point.Goals as goal

pub point-requires-in-loop-next : goal.point-requires-in-loop-next
point-requires-in-loop-next c =
    edge_in_range c.args.net.now c.requires.kept c.args.at c.loop-next.next-index (get_or c.edges_of-next-items.result.now c.loop-next.next-index 0) c.edges_of-next-items.result.now
    c.edges_of-next-items.ensures c.loop-next-test.true refl

pub of-requires-in-loop-next : goal.of-requires-in-loop-next
of-requires-in-loop-next c =
    let inside : get_or c.edges_of-next-items.result.now c.loop-next.next-index 0 < length c.args.net.now.points =
    edge_in_range c.args.net.now c.requires.kept c.args.at c.loop-next.next-index (get_or c.edges_of-next-items.result.now c.loop-next.next-index 0) c.edges_of-next-items.result.now
    c.edges_of-next-items.ensures c.loop-next-test.true refl in
    omega (arith, c.requires.cost_each)

pub returns-then-differ_by-clause-least : goal.returns-then-differ_by-clause-least
returns-then-differ_by-clause-least c =
    let next = get_or c.edges_of-next-items.result.now c.loop-next.next-index 0 in
    let differ : DifferBy (known_at c.args.known.now c.args.at) (known_at c.args.known.now next) c.cost_between-cost.result =
    subst (λ (o : Option ℕ). DifferBy o (known_at c.args.known.now next) c.cost_between-cost.result) c.of.ensures
    (subst (λ (o : Option ℕ). DifferBy c.of.result o c.cost_between-cost.result) c.of-in-loop-next.ensures (c.differ_by.ensures.0 c.if-differ_by.true)) in
    least_at c.args.corridor.now c.args.net.now c.args.known.now c.requires.kept c.args.at c.loop-next.next-index c.requires.in_range c.edges_of-next-items.result.now c.edges_of-next-items.ensures
    c.loop-next-test.true c.loop-next.invariant
    (subst (λ (n : ℕ). DifferBy (known_at c.args.known.now c.args.at) (known_at c.args.known.now next) n) (cost_at c.args.corridor.now c.args.net.now c.args.at (get_or c.edges_of-next-items.result.now c.loop-next.next-index 0) c.place_of-here.result.point c.point-in-loop-next.result
    c.cost_between-cost.result
    (c.place_of-here.ensures.point ∙ c.point.ensures.value) c.point-in-loop-next.ensures.value c.cost_between-cost.ensures.there) differ)

pub loop-next-preserved : goal.loop-next-preserved
loop-next-preserved c =
    below_more (λ i. KeepsCost c.args.corridor.now c.args.net.now c.args.known.now c.args.at (get_or c.edges_of-next-items.result.now i 0) → ⊥) c.loop-next.next-index c.loop-next.invariant
    (λ keeps.
    iff_false c.differ_by.ensures c.if-differ_by.false
    (subst (λ (o : Option ℕ). DifferBy o c.of-in-loop-next.result c.cost_between-cost.result) (sym c.of.ensures)
    (subst (λ (o : Option ℕ). DifferBy (known_at c.args.known.now c.args.at) o c.cost_between-cost.result) (sym c.of-in-loop-next.ensures)
    (subst
    (λ (n : ℕ). DifferBy (known_at c.args.known.now c.args.at) (known_at c.args.known.now (get_or c.edges_of-next-items.result.now c.loop-next.next-index 0)) n)
    (sym (cost_at c.args.corridor.now c.args.net.now c.args.at (get_or c.edges_of-next-items.result.now c.loop-next.next-index 0) c.place_of-here.result.point c.point-in-loop-next.result
    c.cost_between-cost.result
    (c.place_of-here.ensures.point ∙ c.point.ensures.value) c.point-in-loop-next.ensures.value c.cost_between-cost.ensures.there)) keeps))))

pub returns-clause-none : goal.returns-clause-none
returns-clause-none c =
    none_keeps c.args.corridor.now c.args.net.now c.args.known.now c.args.at c.loop-next.next-index c.edges_of-next-items.result.now c.edges_of-next-items.ensures c.loop-next-test.false c.loop-next.invariant
