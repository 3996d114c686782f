-- How far samples are from a station, along an axis.
use Rattle.std.proofs.Common.{◌≡◌, sym, subst, ℕ, zero, suc, ◌+◌, ◌-◌, ◌*◌, ◌/◌, ◌<◌, ◌≤◌, max, ℤ, ◌-ℤ◌, unsigned_abs, List, length, ◌⊎◌, inl, inr, arith}
use Rattle.std.proofs.Math.Nat.{mul-le-mul, mul-le-mul_right}
use Rattle.std.proofs.lemmas.Bool.{cases_lt}
use Rattle.std.proofs.lemmas.Int.{ints}
use Rattle.map_base.specs.declared.point.Point.{Point}
use Rattle.fixed_plane.specs.Measures.{dist2_of}
use Rattle.shape_track.specs.Snaps.{sample_at}
use Rattle.shape_track.specs.BestPlaces.{apart_of, AreWithin}

-- by way of a third number it is no less far
by_third : (a b c : ℤ) → unsigned_abs (b -ℤ a) ≤ unsigned_abs (c -ℤ a) + unsigned_abs (b -ℤ c)
by_third a b c = omega (arith, ints)

-- by way of a third point it is no less far
apart_by_third : (a b c : Point) → apart_of a b ≤ apart_of a c + apart_of c b
apart_by_third a b c =
    larger (unsigned_abs (b.x -ℤ a.x)) (unsigned_abs (b.y -ℤ a.y)) (unsigned_abs (c.x -ℤ a.x)) (unsigned_abs (c.y -ℤ a.y)) (unsigned_abs (b.x -ℤ c.x)) (unsigned_abs (b.y -ℤ c.y))
    (by_third a.x b.x c.x) (by_third a.y b.y c.y)
  where
    larger : (p q r s t u : ℕ) → p ≤ r + t → q ≤ s + u → max p q ≤ max r s + max t u
    larger p q r s t u h k = omega arith

-- samples before one are no further from a station than the gaps between allow
apart_before : (gap : ℕ) (samples : List Point) (station : Point) → AreWithin gap samples → (steps place : ℕ) → place + steps < length samples →
    apart_of station (sample_at samples (place + steps)) ≤ apart_of station (sample_at samples place) + steps * gap
apart_before gap samples station gaps zero place below =
    let here : place + 0 ≡ place = omega arith in
    subst (λ (n : ℕ). apart_of station (sample_at samples n) ≤ apart_of station (sample_at samples place) + 0 * gap) (sym here) (omega arith)
apart_before gap samples station gaps (suc steps) place below =
    let next : place + suc steps ≡ place + steps + 1 = omega arith in
    let before : apart_of station (sample_at samples (place + steps)) ≤ apart_of station (sample_at samples place) + steps * gap = apart_before gap samples station gaps steps place (omega arith) in
    let step : apart_of (sample_at samples (place + steps)) (sample_at samples (place + steps + 1)) ≤ gap = gaps (place + steps) (omega arith) in
    subst (λ (n : ℕ). apart_of station (sample_at samples n) ≤ apart_of station (sample_at samples place) + suc steps * gap) (sym next)
    (sum (apart_of station (sample_at samples (place + steps + 1))) (apart_of station (sample_at samples (place + steps))) (apart_of (sample_at samples (place + steps)) (sample_at samples (place + steps + 1)))
    (apart_of station (sample_at samples place)) steps gap (apart_by_third station (sample_at samples (place + steps + 1)) (sample_at samples (place + steps))) before step)
  where
    sum : (a b c d steps gap : ℕ) → a ≤ b + c → b ≤ d + steps * gap → c ≤ gap → a ≤ d + suc steps * gap
    sum a b c d steps gap h k l = omega arith

-- what is further away than a radius costs more than a limit
far_costs : (a b : Point) (radius limit : ℕ) → radius < apart_of a b → limit < (radius + 1) * (radius + 1) → limit < dist2_of a b
far_costs a b radius limit far above =
    larger (unsigned_abs (b.x -ℤ a.x)) (unsigned_abs (b.y -ℤ a.y)) far
  where
    more : (r p l s : ℕ) → l < s → s ≤ p → l < p + r
    more r p l s h k = omega arith

    more_second : (r p l s : ℕ) → l < s → s ≤ p → l < r + p
    more_second r p l s h k = omega arith

    larger : (p q : ℕ) → radius < max p q → limit < p * p + q * q
    larger p q far = by_order (cases_lt p q)
      where
        by_order : (p < q) ⊎ (q ≤ p) → limit < p * p + q * q
        by_order (inl h) = let over : radius + 1 ≤ q = omega arith in more_second (p * p) (q * q) limit ((radius + 1) * (radius + 1)) above (mul-le-mul over over)
        by_order (inr h) = let over : radius + 1 ≤ p = omega arith in more (q * q) (p * p) limit ((radius + 1) * (radius + 1)) above (mul-le-mul over over)

-- the places down to one are all too far away
pub far_places : (gap radius limit : ℕ) (samples : List Point) (station : Point) (top apart : ℕ) → 0 < gap → AreWithin gap samples → limit < (radius + 1) * (radius + 1) → top < length samples →
    apart ≡ apart_of station (sample_at samples top) → radius < apart → (place : ℕ) → top - (apart - radius - 1) / gap ≤ place → place ≤ top → limit < dist2_of station (sample_at samples place)
far_places gap radius limit samples station top apart some gaps above below is far place high low =
    far_costs station (sample_at samples place) radius limit
    (enough (apart_of station (sample_at samples place)) apart ((top - place) * gap) ((apart - radius - 1) / gap * gap)
    (subst (λ (n : ℕ). n ≤ apart_of station (sample_at samples place) + (top - place) * gap) (sym is) reached)
    (mul-le-mul_right {m = top - place} {n = (apart - radius - 1) / gap} gap (omega arith)) (whole (apart - radius - 1) gap some) far)
    above
  where
    reached : apart_of station (sample_at samples top) ≤ apart_of station (sample_at samples place) + (top - place) * gap
    reached =
        let back : place + (top - place) ≡ top = omega arith in
        subst (λ (n : ℕ). apart_of station (sample_at samples n) ≤ apart_of station (sample_at samples place) + (top - place) * gap) back
        (apart_before gap samples station gaps (top - place) place (omega arith))

    whole : (n gap : ℕ) → 0 < gap → n / gap * gap ≤ n
    whole n gap some = omega arith

    enough : (a b c d : ℕ) → b ≤ a + c → c ≤ d → d ≤ b - radius - 1 → radius < b → radius < a
    enough a b c d h k l m = omega arith
