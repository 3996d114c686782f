-- The hops along a course, and their limit.
use Rattle.std.proofs.Common.{◌≡◌, ◌∙◌, refl, ap, ℕ, ◌+◌, ◌-◌, ◌≤◌, List, arith}
use Rattle.map_base.specs.declared.point.Point.{Point}
use Rattle.map_base.specs.declared.limit.LimitKind.TheVariants.{Samples}
use Rattle.shape_track.specs.Choices.{snap_of}
use Rattle.shape_track.specs.Hops.{hops_of}
use Rattle.map_base.specs.declared.limit_fault.LimitFault.{LimitFault}
use Rattle.map_base.specs.declared.limit_fault.LimitFault.TheVariants as fault
use Rattle.feed_courses.specs.Outcome.{hops_along}
use Rattle.feed_courses.specs.Faults.{IsAbove}

pub hops_along-is : (near : ℕ) (samples stations : List Point) (places : List ℕ) (shown now : List Point) → shown ≡ samples → now ≡ samples → places ≡ snap_of now stations → hops_of near shown stations places ≡ hops_along near samples stations
unfolding hops_along
hops_along-is near samples stations places shown now shown_is now_is placed =
    ap (λ ps. hops_of near ps stations places) shown_is ∙ ap (hops_of near samples stations) (placed ∙ ap (λ ps. snap_of ps stations) now_is)

-- a limit met at the hops is met by all samples
pub IsAbove-hops : (left count rest part total : ℕ) (fault : LimitFault) → count ≤ left → rest ≡ left - count → part ≡ total → IsAbove Samples rest part fault → IsAbove Samples left (count + total) fault
IsAbove-hops left count rest part total (fault.Limit limit) within rest_is same cause = (cause.0, omega (arith, cause.1))
IsAbove-hops left count rest part total fault.NoMemory within rest_is same cause = tt
