-- A search ends where as many attempts were made as may be, or where none is left that gives walks.
use Rattle.std.proofs.Common.{◌≡◌, sym, ◌∙◌, ap, refl, ℕ, zero, suc, ◌+◌, ◌<◌, ◌≤◌, min, Bool, true, false, cond, eqb, List, [], ◌∷◌, ◌⊎◌, inl, inr, Option, Some, None, arith}
use Rattle.std.specs.Prelude.{nat_le}
use Rattle.std.proofs.lemmas.Bool.{cases_lt, eqb-false, eqb-true, leb-false, lt-leb}
use Rattle.octi_grid.specs.Walks.{PlainWalk}
use Rattle.octi_grid.proofs.Members.{In}
use Rattle.run_laying.specs.Attempts.{Attempt}
use Rattle.run_laying.specs.Searches.{after_attempt, after_pass, after_passes, found_with, Found}

module _ (try : List PlainWalk → Attempt → Option (List PlainWalk)) where
  -- none of these gives walks
  abbrev pub NoneGives : List Attempt → Found → Type 0
  NoneGives attempts f = (a : Attempt) → In a attempts → try f.walks a ≡ None

  -- ---- one attempt

  at_least : (f : Found) (b : Bool) (o : Option (List PlainWalk)) → f.made ≤ (cond b f (found_with f o)).made
  at_least f true o = omega arith
  at_least f false None = omega arith
  at_least f false (Some walks) = omega arith

  at_most : (limit : ℕ) (f : Found) (o : Option (List PlainWalk)) → f.made ≤ limit → (cond (nat_le limit f.made) f (found_with f o)).made ≤ limit
  at_most limit f o few = by_test (nat_le limit f.made) refl o
    where
      by_test : (b : Bool) → nat_le limit f.made ≡ b → (o : Option (List PlainWalk)) → (cond b f (found_with f o)).made ≤ limit
      by_test true e o = few
      by_test false e None = few
      by_test false e (Some walks) = omega (arith, leb-false limit f.made e)

  -- where there is room for it
  tried : (limit : ℕ) (f : Found) (a : Attempt) → f.made < limit → after_attempt try limit f a ≡ found_with f (try f.walks a)
  tried limit f a room = ap (λ b. cond b f (found_with f (try f.walks a))) (lt-leb limit f.made room)

  -- ---- a pass

  made_rises : (limit : ℕ) (attempts : List Attempt) (f : Found) → f.made ≤ (after_pass try attempts limit f).made
  made_rises limit [] f = omega arith
  made_rises limit (a ∷ attempts) f = omega (arith, at_least f (nat_le limit f.made) (try f.walks a), made_rises limit attempts (after_attempt try limit f a))

  made_within : (limit : ℕ) (attempts : List Attempt) (f : Found) → f.made ≤ limit → (after_pass try attempts limit f).made ≤ limit
  made_within limit [] f few = few
  made_within limit (a ∷ attempts) f few = made_within limit attempts (after_attempt try limit f a) (at_most limit f (try f.walks a) few)

  -- where a pass that had room made nothing, no attempt gives walks
  none_made : (limit : ℕ) (attempts : List Attempt) (f : Found) → f.made < limit → (after_pass try attempts limit f).made ≡ f.made → NoneGives attempts f
  none_made limit [] f room same a i = absurd i
  none_made limit (b ∷ attempts) f room same a i = by_first (try f.walks b) refl i (λ later j. none_made limit attempts f room later a j)
    where
      next : (o : Option (List PlainWalk)) → try f.walks b ≡ o → after_attempt try limit f b ≡ found_with f o
      next o e = tried limit f b room ∙ ap (found_with f) e

      by_first : (o : Option (List PlainWalk)) → try f.walks b ≡ o → In a (b ∷ attempts) → ((after_pass try attempts limit f).made ≡ f.made → In a attempts → try f.walks a ≡ None) → try f.walks a ≡ None
      by_first (Some walks) e j rest =
          let one = ap (λ (g : Found). g.made) (next (Some walks) e) in
          absurd (omega (arith, one, made_rises limit attempts (after_attempt try limit f b), same))
      by_first None e (inl k) rest = ap (try f.walks) k ∙ e
      by_first None e (inr k) rest = rest (sym (ap (λ (g : Found). (after_pass try attempts limit g).made) (next None e)) ∙ same) k

  -- ---- passes

  module _ (attempts : List Attempt) (at_once most : ℕ) (some : 0 < most → 0 < at_once) where
    abbrev limit : Found → ℕ
    limit f = min most (f.made + at_once)

    abbrev passed : Found → Found
    passed f = after_pass try attempts (limit f) f

    abbrev IsEnd : Found → Type 0
    IsEnd f = (f.made ≡ most) ⊎ NoneGives attempts f

    -- enough passes are left for all attempts that may be made
    pub ended : (p : ℕ) (f : Found) → f.made ≤ most → most ≤ f.made + p → IsEnd (after_passes try attempts at_once most p f)
    ended zero f few enough = inl (omega (arith, few, enough))
    ended (suc p) f few enough = by_same (eqb (passed f).made f.made) refl (λ some_few some_enough. ended p (passed f) some_few some_enough)
      where
        by_same : (b : Bool) → eqb (passed f).made f.made ≡ b → ((passed f).made ≤ most → most ≤ (passed f).made + p → IsEnd (after_passes try attempts at_once most p (passed f)))
            → IsEnd (cond b f (after_passes try attempts at_once most p (passed f)))
        by_same true e rest = elim (cases_lt f.made most) [
          | inl room ↦ inr (none_made (limit f) attempts f (omega (arith, room, some (omega (arith, room)))) (eqb-true (passed f).made f.made e))
          | inr full ↦ inl (omega (arith, few, full))
        ]
        by_same false e rest =
            let up = made_rises (limit f) attempts f in
            let within = made_within (limit f) attempts f (omega (arith, few)) in
            let other = eqb-false (passed f).made f.made e in
            rest (omega (arith, within)) (omega (arith, up, other, enough))
