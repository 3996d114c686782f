use Rattle.std.proofs.Common.{◌≡◌, ◌∙◌, sym, ap, subst, ℕ, ◌+◌, ◌-◌, ◌≤◌, List, length, All, arith, rules}
use Rattle.std.proofs.lemmas.List.Elements.{All-map}
use Rattle.map_base.specs.declared.point.Point.{Point}
use Rattle.map_base.specs.declared.limit.LimitKind.TheVariants.{Samples}
use Rattle.fixed_plane.specs.Plane.{IsInPlane}
use Rattle.shape_track.specs.Samples.{samples_of}
use Rattle.shape_track.specs.Hops.{hops_of, total_of}
use Rattle.feed_courses.specs.Outcome.{hops_along}
use Rattle.feed_courses.specs.Faults.{IsAbove}
use Rattle.feed_courses.proofs.HopsAlong.{hops_along-is, IsAbove-hops}
use Rattle.feed_courses.proofs.hops.hops_along.Goals as goal

pub returns-in_err-hops-clause-cause : goal.returns-in_err-hops-clause-cause
returns-in_err-hops-clause-cause c =
    let near = c.args.near in
    let samples = samples_of near c.args.course.now in
    let stations = c.args.stations.now in
    let made = c.in_ok-samples.ensures.samples in
    let hops_is : hops_of near c.deref-2.result.now stations c.deref-3.result.now ≡ hops_along near samples stations =
    hops_along-is near samples stations c.deref-3.result.now c.deref-2.result.now c.deref.result.now (c.deref-2.ensures.value ∙ made) (c.deref.ensures.value ∙ made) (c.deref-3.ensures.value ∙ c.in_ok-places.ensures.chosen) in
    let count : c.len.result ≡ length samples = c.len.ensures ∙ sym c.deref.ensures.len ∙ ap length (c.deref.ensures.value ∙ made) in
    let within : length samples ≤ c.args.left = omega (arith, count, c.in_ok-samples.ensures.within, c.len.ensures) in
    let rest : c.args.left - c.len.result ≡ c.args.left - length samples = ap (λ (n : ℕ). c.args.left - n) count in
    let cause : IsAbove Samples c.args.left (length samples + total_of (hops_along near samples stations)) c.in_err-hops.field-0.0 =
    IsAbove-hops c.args.left (length samples) (c.args.left - c.len.result) (total_of (hops_of near c.deref-2.result.now stations c.deref-3.result.now)) (total_of (hops_along near samples stations)) c.in_err-hops.field-0.0
    within rest (ap total_of hops_is) c.in_err-hops.ensures.cause in
    search (rules, cause)

pub returns-clause-hops : goal.returns-clause-hops
returns-clause-hops c =
    let near = c.args.near in
    let made = c.in_ok-samples.ensures.samples in
    c.in_ok-hops-2.ensures ∙ c.in_ok-hops.ensures.hops
    ∙ hops_along-is near (samples_of near c.args.course.now) c.args.stations.now c.deref-3.result.now c.deref-2.result.now c.deref.result.now (c.deref-2.ensures.value ∙ made) (c.deref.ensures.value ∙ made)
    (c.deref-3.ensures.value ∙ c.in_ok-places.ensures.chosen)

pub returns-clause-in_plane : goal.returns-clause-in_plane
returns-clause-in_plane c =
    subst (λ (hops : List (List Point)). All (λ hop. All IsInPlane hop) hops) (sym c.in_ok-hops-2.ensures)
    (All-map (λ (hop : List Point). All IsInPlane hop) (λ list. list.items) c.in_ok-hops.hops.items c.in_ok-hops.ensures.in_plane)
