-- Net points only grow in number, and stay in the plane and distinct.
use Rattle.std.proofs.Common.{◌≡◌, sym, ◌∙◌, ap, subst, ℕ, ◌+◌, ◌<◌, ◌≤◌, Bool, true, false, cond, List, [], ◌∷◌, ◌++◌, length, get_or, take, drop, arith, length-append}
use Rattle.std.proofs.Math.Nat.{le_trans, le_refl}
use Rattle.std.proofs.lemmas.List.{take-append-drop}
use Rattle.std.proofs.lemmas.List.Sums.{fold-append, fold_more}
use Rattle.map_base.specs.declared.point.Point.{Point}
use Rattle.map_base.specs.declared.limit_fault.LimitFault.{LimitFault}
use Rattle.map_base.specs.declared.limit_fault.LimitFault.TheVariants.{Limit as AboveLimit, NoMemory}
use Rattle.track_net.specs.Nearness.{has_near}
use Rattle.track_net.specs.Nets.{with_sample, net_points}
use Rattle.track_net.specs.Faults.{HasCause}

-- no net point is taken back
pub length-with_sample : (near : ℕ) (ps : List Point) (p : Point) → length ps ≤ length (with_sample near ps p)
length-with_sample near ps p = of_test (has_near near ps p)
  where
    of_test : (b : Bool) → length ps ≤ length (cond b ps (ps ++ p ∷ []))
    of_test true = le_refl (length ps)
    of_test false = omega (arith, length-append ps (p ∷ []))

pub length-net_points : (near : ℕ) (ps samples : List Point) → length ps ≤ length (net_points near ps samples)
length-net_points near ps [] = le_refl (length ps)
length-net_points near ps (p ∷ samples) = le_trans (length-with_sample near ps p) (length-net_points near (with_sample near ps p) samples)

-- a sample that becomes a net point is counted
pub length-with_new_sample : (near : ℕ) (ps : List Point) (p : Point) → has_near near ps p ≡ false → length (with_sample near ps p) ≡ length ps + 1
length-with_new_sample near ps p none = ap (λ b. length (cond b ps (ps ++ p ∷ []))) none ∙ length-append ps (p ∷ [])

-- a fault that has its cause has it also where there are more points
pub HasCause-more : (m n : ℕ) (fault : LimitFault) → m ≤ n → HasCause m fault → HasCause n fault
HasCause-more m n (AboveLimit limit) more cause = (cause.0, (omega arith))
HasCause-more m n NoMemory more cause = tt

-- what part of the samples gives is no more than what all give
pub length-net_points-part : (near i : ℕ) (stations samples : List Point) → length (net_points near stations (take i samples)) ≤ length (net_points near stations samples)
length-net_points-part near i stations samples =
    let whole : net_points near stations samples ≡ net_points near (net_points near stations (take i samples)) (drop i samples) =
    sym (ap (net_points near stations) (take-append-drop i samples)) ∙ fold-append (with_sample near) stations (take i samples) (drop i samples) in
    let more = length-net_points near (net_points near stations (take i samples)) (drop i samples) in
    subst (λ (ps : List Point). length (net_points near stations (take i samples)) ≤ length ps) (sym whole) more

pub length-net_points-next : (near i : ℕ) (stations samples ps : List Point) (sample d : Point) → i < length samples → ps ≡ net_points near stations (take i samples) →
    sample ≡ get_or samples i d → length (with_sample near ps sample) ≤ length (net_points near stations samples)
length-net_points-next near i stations samples ps sample d below is here =
    let next : with_sample near ps sample ≡ net_points near stations (take (i + 1) samples) =
    ap (λ qs. with_sample near qs sample) is ∙ ap (with_sample near (net_points near stations (take i samples))) here
    ∙ sym (fold_more (with_sample near) stations samples i d below) in
    subst (λ (qs : List Point). length qs ≤ length (net_points near stations samples)) (sym next) (length-net_points-part near (i + 1) stations samples)
