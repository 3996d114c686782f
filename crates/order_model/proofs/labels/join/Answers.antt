use Rattle.std.proofs.Common.{arith}
use Rattle.order_model.proofs.Pointing.{joined_within}
use Rattle.order_model.proofs.labels.join.Goals as goal

pub returns-clause-within : goal.returns-clause-within
returns-clause-within c ls own ok =
    let a_ok = c.label_of-a.ensures.within ls ok in
    let b_ok = c.label_of-b.ensures.within ls a_ok in
    rw (c.max.ensures, c.min.ensures)
    (joined_within ls c.label_of-b.new.parents c.label_of-a.result c.label_of-b.result c.args.e.0 c.args.f.0
    (omega (arith, c.requires.known, c.label_of-a.auto.parents, c.label_of-b.auto.parents))
    (omega (arith, c.requires.other_known, c.label_of-a.auto.parents, c.label_of-b.auto.parents)) own b_ok
    (c.label_of-a.ensures.label ls ok) (c.label_of-b.ensures.label ls a_ok))
