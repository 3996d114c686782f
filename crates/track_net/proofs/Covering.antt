-- Each sample has a net point near by, and net points are different.
use Rattle.std.proofs.Common.{◌≡◌, refl, sym, ◌∙◌, ap, subst, ℕ, ◌*◌, ◌<◌, ◌≤◌, ◌⊎◌, inl, inr, Bool, true, false, cond, pos, List, [], ◌∷◌, ◌++◌, length, arith, length-append}
use Rattle.std.proofs.lemmas.Bool.{both_ways, ltb-true, lt-ltb, cases_lt}
use Rattle.std.proofs.lemmas.List.{get_or_append_left, get_or_push, get_or_default}
use Rattle.std.proofs.lemmas.List.Folds.{list_any_at, Any-from_list_any}
use Rattle.map_base.specs.declared.point.Point.{Point}
use Rattle.fixed_plane.specs.Measures.{dist2_of}
use Rattle.track_net.specs.Nearness.{point_at, is_nearer, has_near}
use Rattle.track_net.specs.Nets.{with_sample, net_points, AreDistinct}
use Rattle.track_net.proofs.ThinLemmas.{length-with_sample, length-net_points}
use Rattle.track_net.proofs.Squares.{dist2_of-self, dist2_of-same}

-- some point of the list is nearer to p than `near`
pub record IsCovered (near : ℕ) (ps : List Point) (p : Point) : Type 0 where
  pub number : ℕ
  pub in_range : number < length ps
  pub close : dist2_of (point_at ps number) p < near * near

-- the points of a list stay where they are when samples are added
pub point_at-with_sample : (near : ℕ) (ps : List Point) (p : Point) (k : ℕ) → k < length ps → point_at (with_sample near ps p) k ≡ point_at ps k
point_at-with_sample near ps p k below = of_test (has_near near ps p)
  where
    of_test : (b : Bool) → point_at (cond b ps (ps ++ p ∷ [])) k ≡ point_at ps k
    of_test true = refl
    of_test false = get_or_append_left ps (p ∷ []) (record { x = pos 0; y = pos 0 }) k below

pub point_at-net_points : (near : ℕ) (ps samples : List Point) (k : ℕ) → k < length ps → point_at (net_points near ps samples) k ≡ point_at ps k
point_at-net_points near ps [] k below = refl
point_at-net_points near ps (p ∷ samples) k below =
    let more = length-with_sample near ps p in
    point_at-net_points near (with_sample near ps p) samples k (omega arith) ∙ point_at-with_sample near ps p k below

-- so what is covered stays covered
IsCovered-later : (near : ℕ) (ps samples : List Point) (p : Point) → IsCovered near ps p → IsCovered near (net_points near ps samples) p
IsCovered-later near ps samples p c =
    let more = length-net_points near ps samples in
    record {
      number = c.number;
      in_range = omega (arith, c.in_range);
      close = subst (λ (q : Point). dist2_of q p < near * near) (sym (point_at-net_points near ps samples c.number c.in_range)) c.close;
    }

-- a sample that is looked at is covered
IsCovered-here : (near : ℕ) (ps : List Point) (p : Point) → 0 < near * near → IsCovered near (with_sample near ps p) p
IsCovered-here near ps p some = of_test (has_near near ps p) refl
  where
    of_test : (b : Bool) → has_near near ps p ≡ b → IsCovered near (cond b ps (ps ++ p ∷ [])) p
    of_test true e =
        let found = Any-from_list_any (λ q. is_nearer near q p) ps e in
        let here : point_at ps found.0 ≡ found.1 = get_or_default ps found.0 (record { x = pos 0; y = pos 0 }) found.1 found.2 ∙ found.3 in
        record {
          number = found.0;
          in_range = found.2;
          close = subst (λ (q : Point). dist2_of q p < near * near) (sym here) (ltb-true (dist2_of found.1 p) (near * near) found.4);
        }
    of_test false e =
        let here : point_at (ps ++ p ∷ []) (length ps) ≡ p = get_or_push ps p (record { x = pos 0; y = pos 0 }) (length ps) refl in
        record {
          number = length ps;
          in_range = omega (arith, length-append ps (p ∷ []));
          close = subst (λ (n : ℕ). n < near * near) (sym (ap (λ q. dist2_of q p) here ∙ dist2_of-self p)) some;
        }

-- each point of a list is covered
abbrev pub AreCovered : ℕ → List Point → List Point → Type 0
AreCovered near net [] = Unit {0}
AreCovered near net (p ∷ ps) = IsCovered near net p × AreCovered near net ps

pub samples_are_covered : (near : ℕ) (ps samples : List Point) → 0 < near * near → AreCovered near (net_points near ps samples) samples
samples_are_covered near ps [] some = tt
samples_are_covered near ps (p ∷ samples) some =
    (IsCovered-later near (with_sample near ps p) samples p (IsCovered-here near ps p some), samples_are_covered near (with_sample near ps p) samples some)

pub AreCovered-right : (near : ℕ) (net ps qs : List Point) → AreCovered near net (ps ++ qs) → AreCovered near net qs
AreCovered-right near net [] qs h = h
AreCovered-right near net (p ∷ ps) qs h = AreCovered-right near net ps qs h.1

pub AreCovered-left : (near : ℕ) (net ps qs : List Point) → AreCovered near net (ps ++ qs) → AreCovered near net ps
AreCovered-left near net [] qs h = tt
AreCovered-left near net (p ∷ ps) qs h = (h.0, AreCovered-left near net ps qs h.1)

-- a sample that becomes a net point is none of those that are there
AreDistinct-with_sample : (near : ℕ) (ps : List Point) (p : Point) → 0 < near * near → AreDistinct ps → AreDistinct (with_sample near ps p)
AreDistinct-with_sample near ps p some distinct = of_test (has_near near ps p) refl
  where
    start : Point
    start = record { x = pos 0; y = pos 0 }

    of_test : (b : Bool) → has_near near ps p ≡ b → AreDistinct (cond b ps (ps ++ p ∷ []))
    of_test true e i j i_in j_in same = distinct i j i_in j_in same
    of_test false e i j i_in j_in same = of_orders (cases_lt i (length ps)) (cases_lt j (length ps))
      where
        old : (k : ℕ) → k < length ps → point_at (ps ++ p ∷ []) k ≡ point_at ps k
        old k below = get_or_append_left ps (p ∷ []) start k below

        last : (k : ℕ) → length ps ≤ k → k < length (ps ++ p ∷ []) → k ≡ length ps
        last k above below = omega (arith, length-append ps (p ∷ []))

        new : (k : ℕ) → length ps ≤ k → k < length (ps ++ p ∷ []) → point_at (ps ++ p ∷ []) k ≡ p
        new k above below = get_or_push ps p start k (sym (last k above below))

        not_there : (k : ℕ) → k < length ps → point_at ps k ≡ p → ⊥
        not_there k below here =
            both_ways (has_near near ps p) e
            (list_any_at (λ q. is_nearer near q p) ps k start below
            (lt-ltb (dist2_of (point_at ps k) p) (near * near) (subst (λ (n : ℕ). n < near * near) (sym (dist2_of-same (point_at ps k) p here)) some)))

        of_orders : (i < length ps) ⊎ (length ps ≤ i) → (j < length ps) ⊎ (length ps ≤ j) → i ≡ j
        of_orders (inl h) (inl k) = distinct i j h k (sym (old i h) ∙ same ∙ old j k)
        of_orders (inl h) (inr k) = absurd (not_there i h (sym (old i h) ∙ same ∙ new j k j_in))
        of_orders (inr h) (inl k) = absurd (not_there j k (sym (old j k) ∙ sym same ∙ new i h i_in))
        of_orders (inr h) (inr k) = last i h i_in ∙ sym (last j k j_in)

pub AreDistinct-net_points : (near : ℕ) (ps samples : List Point) → 0 < near * near → AreDistinct ps → AreDistinct (net_points near ps samples)
AreDistinct-net_points near ps [] some distinct = distinct
AreDistinct-net_points near ps (p ∷ samples) some distinct =
    AreDistinct-net_points near (with_sample near ps p) samples some (AreDistinct-with_sample near ps p some distinct)
