use Rattle.std.proofs.Common.{◌≡◌, subst, ℕ, ◌-◌, ◌/◌, ◌≤◌, arith}
use Rattle.shape_track.proofs.BestPlaceLemmas.{places_passed, place_added}
use Rattle.shape_track.proofs.Leaps.{far_places}
use Rattle.shape_track.proofs.best_places.Descent.step.Goals as goal

pub returns-then-apart-reach : goal.returns-then-apart-reach
returns-then-apart-reach c =
    let q = c.args.self.now.place in
    let p = c.place_past-self.result in
    let reach = c.args.reach in
    let is : p ≡ q - 1 - (c.apart-apart.result - reach.radius - 1) / reach.gap = c.place_past-self.ensures in
    places_passed c.args.samples.now c.args.station reach.limit c.args.later.now c.args.self.now.row.items (q - p) p q c.args.self.now.seen (omega (arith, is)) c.requires.before
    (λ place high low. far_places reach.gap reach.radius reach.limit c.args.samples.now c.args.station (q - 1) c.apart-apart.result reach.some c.requires.gaps reach.far
    (omega (arith, c.requires.before.in_range, c.requires.some)) c.apart-apart.ensures.value (omega arith) place (subst (λ (n : ℕ). n ≤ place) is high) (omega (arith, low)))

pub returns : goal.returns
returns c =
    let q = c.args.self.now.place in
    place_added c.args.samples.now c.args.station c.args.reach.limit c.args.later.now c.args.self.now.row.items c.add.new.row.items (q - 1) q c.args.self.now.seen c.seen_from-self.result c.dist2.result
    c.cost_seen-rest.result (omega (arith, c.requires.some)) c.requires.before c.seen_from-self.ensures.seen c.cost_seen-rest.ensures c.dist2.ensures.value c.in_ok-add.ensures
