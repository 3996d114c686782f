use Rattle.std.proofs.Common.{◌+◌, ◌-◌, ◌≤◌, eqb, ◌&&◌, sym, ap, ◌∙◌, arith}
use Rattle.std.proofs.lemmas.Bool.{le-leb}
use Rattle.segment_router.specs.Ports.{distance_to}
use Rattle.segment_router.proofs.TourLemmas.{tour_closes}
use Rattle.segment_router.proofs.ports.closes.Goals as goal

pub returns : goal.returns
returns c =
    let t = c.args.tour in
    let gap = distance_to t.last.port t.first.port in
    let room : t.first.place + c.args.count - t.last.place ≤ gap = omega (arith, c.distance_to-gap.ensures.value) in
    ap (λ n. eqb (t.turned + n) 8) c.distance_to-gap.ensures.value
    ∙ sym (tour_closes c.args.count t ∙ ap (λ b. b && eqb (t.turned + gap) 8) (le-leb _ _ room))
