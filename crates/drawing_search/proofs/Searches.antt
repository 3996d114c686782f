-- A search under way: passes over groups of attempts.
use Rattle.std.proofs.Common.{◌≡◌, sym, ◌∙◌, ap, ap₂, subst, ℕ, ◌+◌, ◌<◌, ◌≤◌, List, length, drop, min, get_or, arith, refl, zero, suc, cond, [], ◌∷◌, Option}
use Rattle.drawing_search.proofs.Common.{after_pass, after_passes, after_tries, after_try, all_in, attempts_in}
use Rattle.drawing_search.proofs.Common.{attempts_of, drop_all, drop_more, eq-eqb, fold-append, found_with, improving}
use Rattle.drawing_search.proofs.Common.{le-leb, ne_eqb, points_all, sketch_weight, walks_of, weight_by, All, Attempt}
use Rattle.drawing_search.proofs.Common.{Bounds, Found, GraphParts, GridPoint, Group, In, IsConsistent, IsFitting}
use Rattle.drawing_search.proofs.Common.{IsSettled, PlainWalk, Scale, Sketch, Tried}
use Rattle.drawing_search.proofs.OnWalks.{found_of, tries_there, IsGood, IsThere}
use Rattle.drawing_search.proofs.TriedGroups.{tries_after, IsAfter}

module _ (try : List PlainWalk → Attempt → Option (List PlainWalk)) (attempts : List Attempt) (at_once most : ℕ) where
  pass_full : (limit : ℕ) (rest : List Attempt) (f : Found) → limit ≤ f.made → after_pass try rest limit f ≡ f
  pass_full limit [] f full = refl
  pass_full limit (a ∷ rest) f full = ap (λ b. after_pass try rest limit (cond b f (found_with f (try f.walks a)))) (le-leb limit f.made full) ∙ pass_full limit rest f full

  -- so many passes are left, enough for all attempts that may be made
  abbrev pub IsEnough : ℕ → Found → Found → Type 0
  IsEnough p f result = (most ≤ f.made + p) × (after_passes try attempts at_once most p f ≡ result)

  -- all attempts were made
  pub passes_full : (p : ℕ) (f result : Found) → most ≤ f.made → IsEnough p f result → f ≡ result
  passes_full zero f result full enough = enough.1
  passes_full (suc p) f result full enough =
      let same = pass_full (min most (f.made + at_once)) attempts f (omega (arith, full)) in
      ap (λ b. cond b f (after_passes try attempts at_once most p (after_pass try attempts (min most (f.made + at_once)) f))) (sym (eq-eqb (after_pass try attempts (min most (f.made + at_once)) f).made f.made (ap (λ (x : Found). x.made) same)))
      ∙ enough.1

  -- a pass made nothing
  pub pass_none : (p : ℕ) (f result : Found) → f.made < most → IsEnough p f result → (after_pass try attempts (min most (f.made + at_once)) f).made ≡ f.made → f ≡ result
  pass_none zero f result room enough same = absurd (omega (arith, room, enough.0))
  pass_none (suc p) f result room enough same =
      ap (λ b. cond b f (after_passes try attempts at_once most p (after_pass try attempts (min most (f.made + at_once)) f))) (sym (eq-eqb (after_pass try attempts (min most (f.made + at_once)) f).made f.made same))
      ∙ enough.1

  -- or something, and fewer are left
  pub pass_some : (p : ℕ) (f result : Found) → f.made < most → IsEnough p f result → f.made < (after_pass try attempts (min most (f.made + at_once)) f).made
      → (q : ℕ) × IsEnough q (after_pass try attempts (min most (f.made + at_once)) f) result
  pass_some zero f result room enough more = absurd (omega (arith, room, enough.0))
  pass_some (suc p) f result room enough more = (
    p,
    (
      omega (arith, enough.0, more),
      ap (λ b. cond b f (after_passes try attempts at_once most p (after_pass try attempts (min most (f.made + at_once)) f)))
          (sym (ne_eqb (after_pass try attempts (min most (f.made + at_once)) f).made f.made (λ e. absurd (omega (arith, e, more)))))
          ∙ enough.1,
    ),
  )

-- the attempts of groups, one group after another
pub tries_more : (scale : Scale) (graph : GraphParts) (first : List GridPoint) (most : ℕ) (groups : List Group) (i : ℕ) (d : Group) (f : Tried) → i < length groups
    → after_tries scale graph first most (attempts_of (drop i groups)) f ≡ after_tries scale graph first most (attempts_of (drop (i + 1) groups)) (after_tries scale graph first most (attempts_in (get_or groups i d)) f)
tries_more scale graph first most groups i d f below =
    ap (λ (gs : List Group). after_tries scale graph first most (attempts_of gs) f) (drop_more groups i d below)
    ∙ fold-append (after_try scale graph first most) f (attempts_in (get_or groups i d)) (attempts_of (drop (i + 1) groups))

-- a pass under way: the groups that are left come to what all of them come to
pub record IsPassing (scale : Scale) (graph : GraphParts) (first : List GridPoint) (limit : ℕ) (groups : List Group) (start : Tried) (i : ℕ) (k : Sketch) (weight made : ℕ) : Type 0 where
  pub settled : IsSettled scale graph first k weight
  pub rest : after_tries scale graph first limit (attempts_of (drop i groups)) (record { sketch = k; made = made }) ≡ after_tries scale graph first limit (attempts_of groups) start
  pub few : made ≤ limit

pub pass_over : (scale : Scale) (graph : GraphParts) (first : List GridPoint) (limit : ℕ) (groups : List Group) (start : Tried) (i : ℕ) (k : Sketch) (weight made : ℕ) → length groups ≤ i → IsPassing scale graph first limit groups start i k weight made
    → (let f : Tried = record { sketch = k; made = made } in f) ≡ after_tries scale graph first limit (attempts_of groups) start
pass_over scale graph first limit groups start i k weight made past p = ap (λ (gs : List Group). after_tries scale graph first limit (attempts_of gs) (let f : Tried = record { sketch = k; made = made } in f)) (sym (drop_all i groups past)) ∙ p.rest

-- between passes: those that are left come to what all of them come to
pub record IsBetweenPasses (scale : Scale) (graph : GraphParts) (first : List PlainWalk) (bounds : Bounds) (groups : List Group) (at_once most before : ℕ) (k : Sketch) (weight made : ℕ) : Type 0 where
  pub settled : IsSettled scale graph (points_all graph first) k weight
  pub good : IsGood graph bounds k
  pub passes : ℕ
  pub enough : IsEnough (improving graph bounds (weight_by scale graph first)) (attempts_of groups) at_once most passes (record { walks = walks_of k; made = made })
      (after_passes (improving graph bounds (weight_by scale graph first)) (attempts_of groups) at_once most most (record { walks = first; made = 0 }))
  pub few : made ≤ most
  pub no_heavier : weight ≤ before

module _ (scale : Scale) (graph : GraphParts) (fit : IsConsistent graph) (first : List PlainWalk) (bounds : Bounds) (groups : List Group) (at_once most before : ℕ) (fitting : All (IsFitting graph) (attempts_of groups)) where
  fits : (a : Attempt) → In a (attempts_of groups) → IsFitting graph a
  fits a i = all_in (IsFitting graph) (attempts_of groups) a (λ k d h. fitting k d h) i

  abbrev result : Found
  result = after_passes (improving graph bounds (weight_by scale graph first)) (attempts_of groups) at_once most most (record { walks = first; made = 0 })

  module _ (k : Sketch) (weight made : ℕ) (b : IsBetweenPasses scale graph first bounds groups at_once most before k weight made) where
    abbrev now : Tried
    now = record { sketch = k; made = made }

    -- all attempts were made
    pub passes_end : most ≤ made → (let f : Found = record { walks = walks_of k; made = made } in f) ≡ result
    passes_end full = passes_full (improving graph bounds (weight_by scale graph first)) (attempts_of groups) at_once most b.passes (found_of graph fit scale first bounds now) result full b.enough

    -- what a pass came to, where the first points and how many attempts may be made are read
    module _ (room : made < most) (new : Sketch) (less more : ℕ) (ps : List GridPoint) (limit : ℕ) (first_is : ps ≡ points_all graph first) (limit_is : limit ≡ min most (made + at_once)) (settled_read : IsSettled scale graph ps new less)
        (tried_read : (let f : Tried = record { sketch = new; made = more } in f) ≡ after_tries scale graph ps limit (attempts_of groups) (record { sketch = k; made = made })) where
      pub settled_then : IsSettled scale graph (points_all graph first) new less
      settled_then = subst (λ (qs : List GridPoint). IsSettled scale graph qs new less) first_is settled_read

      is : (let f : Tried = record { sketch = new; made = more } in f) ≡ after_tries scale graph (points_all graph first) (min most (made + at_once)) (attempts_of groups) (record { sketch = k; made = made })
      is = tried_read ∙ ap₂ (λ (qs : List GridPoint) m. after_tries scale graph qs m (attempts_of groups) (record { sketch = k; made = made })) first_is limit_is

      abbrev come_to : Tried
      come_to = record { sketch = new; made = more }

      after : IsAfter scale graph (points_all graph first) (min most (made + at_once)) now (after_tries scale graph (points_all graph first) (min most (made + at_once)) (attempts_of groups) now)
      after = tries_after scale graph (points_all graph first) (min most (made + at_once)) (attempts_of groups) now (omega (arith, room))

      there : IsThere graph fit scale first bounds (after_tries scale graph (points_all graph first) (min most (made + at_once)) (attempts_of groups) now)
          (after_pass (improving graph bounds (weight_by scale graph first)) (attempts_of groups) (min most (made + at_once)) (found_of graph fit scale first bounds now))
      there = tries_there graph fit scale first bounds (min most (made + at_once)) (attempts_of groups) now b.good fits

      found : found_of graph fit scale first bounds come_to ≡ after_pass (improving graph bounds (weight_by scale graph first)) (attempts_of groups) (min most (made + at_once)) (found_of graph fit scale first bounds now)
      found = ap (found_of graph fit scale first bounds) is ∙ there.is

      -- a pass made nothing
      pub passes_stop : more ≡ made → (let f : Found = record { walks = walks_of new; made = more } in f) ≡ result
      passes_stop same =
          ap (found_of graph fit scale first bounds) (is ∙ after.same (ap (λ (f : Tried). f.made) (sym is) ∙ same))
          ∙ pass_none (improving graph bounds (weight_by scale graph first)) (attempts_of groups) at_once most b.passes (found_of graph fit scale first bounds now) result room b.enough (ap (λ (f : Found). f.made) (sym found) ∙ same)

      lighter : less ≤ weight
      lighter = let down = after.lighter in let one = ap (λ (f : Tried). sketch_weight scale graph (points_all graph first) f.sketch) is in omega (arith, down, one, settled_then.weight_is, b.settled.weight_is)

      pub good_then : IsGood graph bounds new
      good_then = subst (λ (f : Tried). IsGood graph bounds f.sketch) (sym is) there.good

      -- or it goes on
      pub rises : (more ≡ made → ⊥) → made < more
      rises other = let up = after.more in let count = ap (λ (f : Tried). f.made) is in omega (arith, other, up, count)

      pub passes_more : (more ≡ made → ⊥) → IsBetweenPasses scale graph first bounds groups at_once most before new less more
      passes_more other =
          let count = ap (λ (f : Tried). f.made) is in
          let up = rises other in
          let next = pass_some (improving graph bounds (weight_by scale graph first)) (attempts_of groups) at_once most b.passes (found_of graph fit scale first bounds now) result room b.enough (let same = ap (λ (f : Found). f.made) found in omega (arith, up, same)) in
          record {
            settled = settled_then;
            good = good_then;
            passes = next.0;
            enough = subst (λ (f : Found). IsEnough (improving graph bounds (weight_by scale graph first)) (attempts_of groups) at_once most next.0 f result) (sym found) next.1;
            few = omega (arith, after.few, count);
            no_heavier = omega (arith, lighter, b.no_heavier);
          }

      pub no_heavier_then : less ≤ before
      no_heavier_then = omega (arith, lighter, b.no_heavier)
