-- A target's place among the targets in memory.
use Rattle.std.proofs.Common.{◌≡◌, ℕ, ◌<◌, zero, suc, Bool, true, false, cond, List, [], ◌∷◌, ◌++◌, length, set, get_or, Option, None, Some, is_some, Vec, position, refl, sym, ap, ◌∙◌, arith}
use Rattle.std.proofs.lemmas.List.{map-append}
use Rattle.std.specs.declared.alloc.Global.{Global}
use Rattle.std.specs.Option.{option_map}
use Rattle.files_door.specs.declared.target.Target.{Target}
use Rattle.files_door.specs.Targets.{same_target, Written, held_by}
use Rattle.files_door.specs.Acts.{change, begin_target, kept_by}
use Rattle.files_door.specs.SinksInMemory.{WrittenSinks, held_in, written_in, place_of, target_at, IsFirst}
use Rattle.files_door.proofs.Places.{position-cons}
use Rattle.files_door.proofs.Targets.{same_target-refl, from_same_target, with_entry}

abbrev Kept : Type 0
Kept = List (Target × Vec ℕ Global)

-- the first place that passes is the target's place
pub position_of : (t : Target) (items : Kept) → position (λ (held : Target × Vec ℕ Global). same_target held.0 t) items ≡ place_of t (written_in items)
position_of t [] = refl
position_of t (item ∷ items) =
    position-cons (λ (held : Target × Vec ℕ Global). same_target held.0 t) item items
    ∙ ap (λ (o : Option ℕ). cond (same_target item.0 t) (Some 0) (option_map suc o)) (position_of t items)

-- a place is the first, or one of the rest
pub data At (here : Bool) (rest : Option ℕ) (place : ℕ) : Type 0 where
  first : here ≡ true → place ≡ 0 → At here rest place
  later : (p : ℕ) → here ≡ false → rest ≡ Some p → place ≡ suc p → At here rest place

pub at_place : (here : Bool) (rest : Option ℕ) (place : ℕ) → cond here (Some 0) (option_map suc rest) ≡ Some place → At here rest place
at_place true rest place h = first refl (cc)
at_place false None place h = cc
at_place false (Some p) place h = later p refl refl (cc)

-- where a target is, it is the target at its place
pub target_at_place : (t : Target) (w : Written) (place : ℕ) → place_of t w ≡ Some place → target_at w place ≡ t
target_at_place t [] place h = cc
target_at_place t (entry ∷ entries) place h = at (at_place (same_target entry.0 t) (place_of t entries) place h) (target_at_place t entries)
  where
    at : At (same_target entry.0 t) (place_of t entries) place → ((p : ℕ) → place_of t entries ≡ Some p → target_at entries p ≡ t) → target_at (entry ∷ entries) place ≡ t
    at (first same is) rest = ap (target_at (entry ∷ entries)) is ∙ from_same_target entry.0 t same
    at (later p other there is) rest = ap (target_at (entry ∷ entries)) is ∙ rest p there

pub first_at_place : (t : Target) (w : Written) (place : ℕ) → place_of t w ≡ Some place → IsFirst w place
first_at_place t w place h = ap (λ (u : Target). place_of u w) (target_at_place t w place h) ∙ h

-- a place is one of the list
pub place_within : (t : Target) (items : Kept) (place : ℕ) → place_of t (written_in items) ≡ Some place → place < length items
place_within t [] place h = cc
place_within t (item ∷ items) place h = at (at_place (same_target item.0 t) (place_of t (written_in items)) place h) (place_within t items)
  where
    at : At (same_target item.0 t) (place_of t (written_in items)) place → ((p : ℕ) → place_of t (written_in items) ≡ Some p → p < length items) → place < length (item ∷ items)
    at (first same is) rest = omega arith
    at (later p other there is) rest = omega (arith, rest p there)

-- writing the vector at a target's place changes what the target holds
pub change_at : (t : Target) (step : List ℕ → List ℕ) (items : Kept) (place : ℕ) (item : Target × Vec ℕ Global) (bytes : Vec ℕ Global)
    → place_of t (written_in items) ≡ Some place → item ≡ get_or items place item → bytes.items ≡ step item.1.items
    → written_in (set items place (item.0, bytes)) ≡ change t step (written_in items)
change_at t step [] place item bytes h read new = cc
change_at t step (top ∷ items) place item bytes h read new = at (at_place (same_target top.0 t) (place_of t (written_in items)) place h) (change_at t step items)
  where
    at : At (same_target top.0 t) (place_of t (written_in items)) place
        → ((p : ℕ) (i : Target × Vec ℕ Global) (b : Vec ℕ Global) → place_of t (written_in items) ≡ Some p → i ≡ get_or items p i → b.items ≡ step i.1.items → written_in (set items p (i.0, b)) ≡ change t step (written_in items))
        → written_in (set (top ∷ items) place (item.0, bytes)) ≡ with_entry (same_target top.0 t) t step (held_in top) (written_in items)
    at (first same is) rest =
        let top_read : item ≡ top = read ∙ ap (λ (k : ℕ). get_or (top ∷ items) k item) is in
        ap (λ (k : ℕ). written_in (set (top ∷ items) k (item.0, bytes))) is
        ∙ ap (λ (b : List ℕ). (item.0, b) ∷ written_in items) new
        ∙ ap (λ (i : Target × Vec ℕ Global). (i.0, step i.1.items) ∷ written_in items) top_read
        ∙ ap (λ (b : Bool). with_entry b t step (held_in top) (written_in items)) (sym same)
    at (later p other there is) rest =
        ap (λ (k : ℕ). written_in (set (top ∷ items) k (item.0, bytes))) is
        ∙ ap (λ (w : Written). held_in top ∷ w) (rest p item bytes there (read ∙ ap (λ (k : ℕ). get_or (top ∷ items) k item) is) new)
        ∙ ap (λ (b : Bool). with_entry b t step (held_in top) (written_in items)) (sym other)

-- a change leaves each target at its place
pub place_of-change : (u t : Target) (step : List ℕ → List ℕ) (w : Written) → place_of u (change t step w) ≡ place_of u w
place_of-change u t step [] = refl
place_of-change u t step (entry ∷ entries) = at (same_target entry.0 t) (place_of-change u t step entries)
  where
    at : (b : Bool) → place_of u (change t step entries) ≡ place_of u entries → place_of u (with_entry b t step entry entries) ≡ place_of u (entry ∷ entries)
    at true rest = refl
    at false rest = ap (λ (o : Option ℕ). cond (same_target entry.0 u) (Some 0) (option_map suc o)) rest

pub target_at-change : (t : Target) (step : List ℕ → List ℕ) (w : Written) (place : ℕ) → target_at (change t step w) place ≡ target_at w place
target_at-change t step [] place = refl
target_at-change t step (entry ∷ entries) place = at (same_target entry.0 t) place (target_at-change t step entries)
  where
    at : (b : Bool) (p : ℕ) → ((q : ℕ) → target_at (change t step entries) q ≡ target_at entries q) → target_at (with_entry b t step entry entries) p ≡ target_at (entry ∷ entries) p
    at true zero rest = refl
    at true (suc p) rest = refl
    at false zero rest = refl
    at false (suc p) rest = rest p

pub IsFirst-change : (t : Target) (step : List ℕ → List ℕ) (w : Written) (place : ℕ) → IsFirst w place → IsFirst (change t step w) place
IsFirst-change t step w place was =
    ap (λ (u : Target). place_of u (change t step w)) (target_at-change t step w place) ∙ place_of-change (target_at w place) t step w ∙ was

-- what is held at a place
pub held_read : (t : Target) (items : Kept) (place : ℕ) (item : Target × Vec ℕ Global) → place_of t (written_in items) ≡ Some place → item ≡ get_or items place item → held_by t (written_in items) ≡ Some item.1.items
held_read t [] place item h read = cc
held_read t (top ∷ items) place item h read = at (at_place (same_target top.0 t) (place_of t (written_in items)) place h) (held_read t items)
  where
    at : At (same_target top.0 t) (place_of t (written_in items)) place
        → ((p : ℕ) (i : Target × Vec ℕ Global) → place_of t (written_in items) ≡ Some p → i ≡ get_or items p i → held_by t (written_in items) ≡ Some i.1.items)
        → cond (same_target top.0 t) (Some top.1.items) (held_by t (written_in items)) ≡ Some item.1.items
    at (first same is) rest =
        ap (λ (b : Bool). cond b (Some top.1.items) (held_by t (written_in items))) same
        ∙ ap (λ (i : Target × Vec ℕ Global). Some i.1.items) (sym (read ∙ ap (λ (k : ℕ). get_or (top ∷ items) k item) is))
    at (later p other there is) rest =
        ap (λ (b : Bool). cond b (Some top.1.items) (held_by t (written_in items))) other
        ∙ rest p item there (read ∙ ap (λ (k : ℕ). get_or (top ∷ items) k item) is)

pub is_some-held_by : (t : Target) (w : Written) → is_some (held_by t w) ≡ is_some (place_of t w)
is_some-held_by t [] = refl
is_some-held_by t (entry ∷ entries) = at (same_target entry.0 t) (is_some-held_by t entries)
  where
    mapped : (o : Option ℕ) → is_some o ≡ is_some (option_map suc o)
    mapped None = refl
    mapped (Some n) = refl

    at : (b : Bool) → is_some (held_by t entries) ≡ is_some (place_of t entries) → is_some (cond b (Some entry.1) (held_by t entries)) ≡ is_some (cond b (Some 0) (option_map suc (place_of t entries)))
    at true rest = refl
    at false rest = rest ∙ mapped (place_of t entries)

-- a target without a place was never begun
pub held_none : (t : Target) (w : Written) → place_of t w ≡ None → held_by t w ≡ None
held_none t w h = none (held_by t w) (is_some-held_by t w ∙ ap is_some h)
  where
    none : (o : Option (List ℕ)) → is_some o ≡ false → o ≡ None
    none None e = refl
    none (Some held) e = cc

-- to begin a target with a place
pub begin_there : (t : Target) (w : Written) (place : ℕ) → place_of t w ≡ Some place → begin_target t w ≡ change t (kept_by t) w
begin_there t w place h = ap (λ (b : Bool). cond b (change t (kept_by t) w) (w ++ (t, []) ∷ [])) (is_some-held_by t w ∙ ap is_some h)

-- to begin a target without one
pub begin_new : (t : Target) (w : Written) → place_of t w ≡ None → begin_target t w ≡ w ++ (t, []) ∷ []
begin_new t w h = ap (λ (b : Bool). cond b (change t (kept_by t) w) (w ++ (t, []) ∷ [])) (is_some-held_by t w ∙ ap is_some h)

-- a target that is added has the place behind the others
pub place_of-push : (t : Target) (w : Written) (bytes : List ℕ) → place_of t w ≡ None → place_of t (w ++ (t, bytes) ∷ []) ≡ Some (length w)
place_of-push t [] bytes h = ap (λ (b : Bool). cond b (Some 0) None) (same_target-refl t)
place_of-push t (entry ∷ entries) bytes h = at (same_target entry.0 t) (place_of t entries) h (place_of-push t entries bytes)
  where
    at : (b : Bool) (o : Option ℕ) → cond b (Some 0) (option_map suc o) ≡ None → (o ≡ None → place_of t (entries ++ (t, bytes) ∷ []) ≡ Some (length entries))
        → cond b (Some 0) (option_map suc (place_of t (entries ++ (t, bytes) ∷ []))) ≡ Some (suc (length entries))
    at true o h rest = cc
    at false None h rest = ap (option_map suc) (rest refl)
    at false (Some p) h rest = cc

-- what was found is the target's place
pub place_found : (t : Target) (items slice : Kept) (found : Option ℕ) → found ≡ position (λ (held : Target × Vec ℕ Global). same_target held.0 t) slice → slice ≡ items → found ≡ place_of t (written_in items)
place_found t items slice found is same = is ∙ position_of t slice ∙ ap (λ (l : Kept). place_of t (written_in l)) same

-- a target that holds nothing yet is added
pub written_in-push : (t copy : Target) (items new : Kept) (bytes : Vec ℕ Global) → new ≡ items ++ (copy, bytes) ∷ [] → copy ≡ t → bytes.items ≡ [] → written_in new ≡ written_in items ++ (t, []) ∷ []
written_in-push t copy items new bytes is same empty =
    ap written_in is ∙ map-append held_in items ((copy, bytes) ∷ [])
    ∙ ap (λ (u : Target). written_in items ++ (u, bytes.items) ∷ []) same
    ∙ ap (λ (b : List ℕ). written_in items ++ (t, b) ∷ []) empty

abbrev pub sinks_of : Written → Option Target → WrittenSinks
sinks_of w target = record { written = w; current = target }

pub same_sinks : (w v : Written) (t u : Option Target) → w ≡ v → t ≡ u → sinks_of w t ≡ sinks_of v u
same_sinks w v t u p q = ap (λ (x : Written). sinks_of x t) p ∙ ap (sinks_of v) q

-- a change leaves the current target
pub same_current : (t : Target) (step : List ℕ → List ℕ) (w new : Written) (place : Option ℕ) → new ≡ change t step w → option_map (target_at new) place ≡ option_map (target_at w) place
same_current t step w new None is = refl
same_current t step w new (Some place) is = ap Some (ap (λ (v : Written). target_at v place) is ∙ target_at-change t step w place)
