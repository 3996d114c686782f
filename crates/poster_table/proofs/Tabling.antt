-- Tables with one thing more.
use Rattle.std.proofs.Common.{◌≡◌, ℕ, ◌+◌, ◌<◌, ◌≤◌, ◌⊎◌, inl, inr, List, [], ◌∷◌, ◌++◌, length, ap, sym, subst, ◌∙◌, arith, length-append}
use Rattle.std.specs.Prelude.{All, Contains, Vec}
use Rattle.std.specs.Global.{Global}
use Rattle.std.proofs.lemmas.Bool.{cases_lt}
use Rattle.std.proofs.lemmas.List.{get_or_append_left}
use Rattle.std.proofs.Math.Seq.{get_or-append_seam}
use Rattle.std.proofs.lemmas.List.Elements.{All-contains, All-nil, All-push, All-weaker}
use Rattle.poster_plan.specs.declared.things.Thing.{Thing}
use Rattle.poster_table.specs.declared.table.Table.{Table}
use Rattle.poster_table.specs.Cells.{buckets_of, cells_of}
use Rattle.poster_table.specs.Tables.{bucket_at, no_thing, thing_at, AreBelow, IsFound, IsShortThing, IsTable, PutsIn}
use Rattle.poster_table.proofs.Members.{here, in_first, in_second}

-- numbers below a count are below one more
below_more : (n : ℕ) (numbers : List ℕ) → AreBelow n numbers → AreBelow (n + 1) numbers
below_more n numbers = All-weaker (λ (i : ℕ). i < n) (λ (i : ℕ). i < n + 1) (λ i low. omega (arith, low)) numbers

one_more : (things : List Thing) (t : Thing) → length (things ++ t ∷ []) ≡ length things + 1
one_more things t = length-append things (t ∷ [])

-- the things of a table of which no bucket holds a number
pub table_none : (table : Table) → 0 < length table.buckets.items → table.things.items ≡ [] → table.wide.items ≡ [] → ((b : ℕ) → bucket_at table.buckets.items b ≡ []) → IsTable table
table_none table some things wide none = record {
  some = some;
  short = subst (All IsShortThing) (sym things) (All-nil IsShortThing);
  wide = subst (AreBelow (length table.things.items)) (sym wide) (All-nil (λ (i : ℕ). i < length table.things.items));
  known = λ b. subst (AreBelow (length table.things.items)) (sym (none b)) (All-nil (λ (i : ℕ). i < length table.things.items));
  found = λ i low. absurd (omega (arith, low, ap length things));
}

module _ (old new : Table) (t : Thing) (h : IsTable old) (reckoned : IsShortThing t) (grew : new.things.items ≡ old.things.items ++ t ∷ []) where
  count : length new.things.items ≡ length old.things.items + 1
  count = ap length grew ∙ one_more old.things.items t

  all_short : All IsShortThing new.things.items
  all_short = subst (All IsShortThing) (sym grew) (All-push IsShortThing old.things.items t h.short reckoned)

  -- a thing that was there
  still : (i : ℕ) → i < length old.things.items → thing_at new.things.items i ≡ thing_at old.things.items i
  still i low = ap (λ (ts : List Thing). thing_at ts i) grew ∙ get_or_append_left old.things.items (t ∷ []) no_thing i low

  -- and the new one
  newest : thing_at new.things.items (length old.things.items) ≡ t
  newest = ap (λ (ts : List Thing). thing_at ts (length old.things.items)) grew ∙ get_or-append_seam old.things.items t [] no_thing

  pub wide_put : new.buckets.items ≡ old.buckets.items → new.wide.items ≡ old.wide.items ++ length old.things.items ∷ [] → IsTable new
  wide_put buckets wide = record {
    some = subst (λ (bs : List (Vec ℕ Global)). 0 < length bs) (sym buckets) h.some;
    short = all_short;
    wide =
        subst (λ (n : ℕ). AreBelow n new.wide.items) (sym count)
        (subst (AreBelow (length old.things.items + 1)) (sym wide)
        (All-push (λ (i : ℕ). i < length old.things.items + 1) old.wide.items (length old.things.items) (below_more (length old.things.items) old.wide.items h.wide) (omega arith)));
    known = λ b.
        subst (λ (n : ℕ). AreBelow n (bucket_at new.buckets.items b)) (sym count)
        (subst (λ (bs : List (Vec ℕ Global)). AreBelow (length old.things.items + 1) (bucket_at bs b)) (sym buckets) (below_more (length old.things.items) (bucket_at old.buckets.items b) (h.known b)));
    found = λ i low. by_place i (omega (arith, low, count)) (cases_lt i (length old.things.items));
  }
    where
      by_found : (i : ℕ) → i < length old.things.items → IsFound old i → IsFound new i
      by_found i low (inl at) = inl (subst (λ (ns : List ℕ). Contains ns i) (sym wide) (in_first old.wide.items (length old.things.items ∷ []) i at))
      by_found i low (inr all) =
          inr
          (subst (λ (bs : List (Vec ℕ Global)). All (λ (b : ℕ). Contains (bucket_at bs b) i) (buckets_of (length bs) (cells_of (thing_at new.things.items i).shape))) (sym buckets)
          (subst (λ (thing : Thing). All (λ (b : ℕ). Contains (bucket_at old.buckets.items b) i) (buckets_of (length old.buckets.items) (cells_of thing.shape))) (sym (still i low)) all))

      by_place : (i : ℕ) → i < length old.things.items + 1 → (i < length old.things.items) ⊎ (length old.things.items ≤ i) → IsFound new i
      by_place i low (inl before) = by_found i before (h.found i before)
      by_place i low (inr last) =
          let is : length old.things.items ≡ i = omega (arith, low, last) in
          inl (subst (λ (ns : List ℕ). Contains ns i) (sym wide) (in_second old.wide.items (length old.things.items ∷ []) i (subst (λ (k : ℕ). Contains (k ∷ []) i) (sym is) (here i []))))

  pub cells_put : new.wide.items ≡ old.wide.items → PutsIn old.buckets.items new.buckets.items (buckets_of (length old.buckets.items) (cells_of t.shape)) (length old.things.items) → IsTable new
  cells_put wide put = record {
    some = omega (arith, h.some, put.count);
    short = all_short;
    wide =
        subst (λ (n : ℕ). AreBelow n new.wide.items) (sym count)
        (subst (AreBelow (length old.things.items + 1)) (sym wide) (below_more (length old.things.items) old.wide.items h.wide));
    known = λ b.
        subst (λ (n : ℕ). AreBelow n (bucket_at new.buckets.items b)) (sym count)
        (All-weaker (λ (i : ℕ). Contains (bucket_at old.buckets.items b) i ⊎ (i ≡ length old.things.items)) (λ (i : ℕ). i < length old.things.items + 1) (λ i from. below b i from) (bucket_at new.buckets.items b) (put.only b));
    found = λ i low. by_place i (omega (arith, low, count)) (cases_lt i (length old.things.items));
  }
    where
      below : (b i : ℕ) → Contains (bucket_at old.buckets.items b) i ⊎ (i ≡ length old.things.items) → i < length old.things.items + 1
      below b i (inl at) = let low : i < length old.things.items = All-contains (λ (k : ℕ). k < length old.things.items) (bucket_at old.buckets.items b) i (h.known b) at in omega (arith, low)
      below b i (inr is) = omega (arith, is)

      -- a number that is in all buckets of a thing's cells stays there
      kept : (i : ℕ) (thing : Thing) → All (λ (b : ℕ). Contains (bucket_at new.buckets.items b) i) (buckets_of (length old.buckets.items) (cells_of thing.shape)) → thing_at new.things.items i ≡ thing → IsFound new i
      kept i thing all is =
          inr
          (subst (λ (n : ℕ). All (λ (b : ℕ). Contains (bucket_at new.buckets.items b) i) (buckets_of n (cells_of (thing_at new.things.items i).shape))) (sym put.count)
          (subst (λ (other : Thing). All (λ (b : ℕ). Contains (bucket_at new.buckets.items b) i) (buckets_of (length old.buckets.items) (cells_of other.shape))) (sym is) all))

      by_found : (i : ℕ) → i < length old.things.items → IsFound old i → IsFound new i
      by_found i low (inl at) = inl (subst (λ (ns : List ℕ). Contains ns i) (sym wide) at)
      by_found i low (inr all) =
          kept i (thing_at old.things.items i)
          (All-weaker (λ (b : ℕ). Contains (bucket_at old.buckets.items b) i) (λ (b : ℕ). Contains (bucket_at new.buckets.items b) i) (λ b at. put.keeps b i at) (buckets_of (length old.buckets.items) (cells_of (thing_at old.things.items i).shape)) all)
          (still i low)

      by_place : (i : ℕ) → i < length old.things.items + 1 → (i < length old.things.items) ⊎ (length old.things.items ≤ i) → IsFound new i
      by_place i low (inl before) = by_found i before (h.found i before)
      by_place i low (inr last) =
          let is : length old.things.items ≡ i = omega (arith, low, last) in
          subst (IsFound new) is (kept (length old.things.items) t put.has newest)
