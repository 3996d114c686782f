-- Points of places on earth.
use Rattle.std.proofs.Common.{◌≡◌, refl, subst, ℕ, zero, suc, ◌*◌, ◌≤◌, ℤ, pos, ◌*ℤ◌, unsigned_abs, List, [], ◌∷◌, get_or, arith}
use Rattle.std.proofs.Math.Nat.{mul-le-mul}
use Rattle.std.proofs.lemmas.Int.{unsigned_abs-mul}
use Rattle.whole_algebra.specs.Rounding.{floor_quotient}
use Rattle.whole_algebra.proofs.Rounding.{floor_quotient-within}
use Rattle.fixed_plane.specs.Plane.{per_mille, per_mille_table, projected}
use Rattle.transit_feed.specs.Feeds.{ArePlace}
use Rattle.feed_courses.specs.Runs.{IsOnEarth}

-- none of the per-mille numbers is above 1000
abbrev AreLow : List ℕ → Type 0
AreLow [] = Unit {0}
AreLow (n ∷ ns) = (n ≤ 1000) × AreLow ns

low_at : (ns : List ℕ) (i : ℕ) → AreLow ns → get_or ns i 0 ≤ 1000
low_at [] i low = omega arith
low_at (n ∷ ns) zero low = low.0
low_at (n ∷ ns) (suc i) low = low_at ns i low.1

per_mille-low : (band : ℕ) → per_mille band ≤ 1000
per_mille-low band = low_at per_mille_table band search arith depth 30

scaled_within : (z : ℤ) (by n most : ℕ) → 1 ≤ n → unsigned_abs z * by ≤ most * n → unsigned_abs (floor_quotient (z *ℤ pos by) n) ≤ most
scaled_within z by n most some size =
    floor_quotient-within (z *ℤ pos by) n most some (subst (λ (m : ℕ). m ≤ most * n) (sym_mul z by) size)
  where
    sym_mul : (z : ℤ) (by : ℕ) → unsigned_abs z * by ≡ unsigned_abs (z *ℤ pos by)
    sym_mul z by = rw (unsigned_abs-mul z (pos by)) refl

pub projected-on_earth : (lat lon : ℤ) (band : ℕ) → ArePlace lat lon → IsOnEarth (projected lat lon band)
projected-on_earth lat lon band place = record {
  across = scaled_within lon (11132 * per_mille band) 10000000 200376000 (omega arith) (wide (unsigned_abs lon) (per_mille band) place.longitude (per_mille-low band));
  along = scaled_within lat 11132 10000 100188000 (omega arith) (omega (arith, place.latitude));
}
  where
    wide : (x m : ℕ) → x ≤ 180000000 → m ≤ 1000 → x * (11132 * m) ≤ 200376000 * 10000000
    wide x m low less =
        let part : 11132 * m ≤ 11132000 = omega arith in
        let most : x * (11132 * m) ≤ 180000000 * 11132000 = mul-le-mul low part in
        omega arith
