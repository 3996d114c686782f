-- What a search by cells says is what one through all things says.
use Rattle.std.proofs.Common.{◌≡◌, ℕ, ◌<◌, Bool, true, false, not, ◌||◌, List, length, refl, ap, ◌∙◌, inl, inr}
use Rattle.std.specs.Prelude.{All, Contains}
use Rattle.std.specs.List.{list_any}
use Rattle.std.proofs.lemmas.Bool.{and_parts, or_right}
use Rattle.std.proofs.lemmas.List.{get_or_default}
use Rattle.std.proofs.lemmas.List.Elements.{All-contains}
use Rattle.std.proofs.lemmas.List.Folds.{list_any_at}
use Rattle.eight_sides.specs.Shapes.{meet}
use Rattle.poster_plan.specs.declared.things.Thing.{Thing}
use Rattle.poster_table.specs.declared.table.Table.{Table}
use Rattle.poster_table.specs.Cells.{buckets_of, cells_of}
use Rattle.poster_plan.specs.Things.{are_kin, clash}
use Rattle.poster_table.specs.Tables.{bucket_at, hits_by_cells, hits_in, hits_some, no_thing, thing_at, IsFound, IsTable}
use Rattle.poster_table.proofs.Finding.{same_tests}
use Rattle.poster_table.proofs.Members.{any_from, any_some}
use Rattle.poster_table.proofs.Reaching.{shapes_share}

or_left : (a b : Bool) → a ≡ true → (a || b) ≡ true
or_left true b e = refl
or_left false b e = absurd cc

-- a number of a thing that clashes
hit : (things : List Thing) (t : Thing) (i : ℕ) → i < length things → clash t (thing_at things i) ≡ true → list_any (clash t) things ≡ true
hit things t i low e = list_any_at (clash t) things i no_thing low e

some_hit : (things : List Thing) (t : Thing) (numbers : List ℕ) → All (λ (i : ℕ). i < length things) numbers → hits_some things t numbers ≡ true → list_any (clash t) things ≡ true
some_hit things t numbers known e =
    let found = any_some (λ (i : ℕ). clash t (thing_at things i)) numbers e in
    hit things t found.one (All-contains (λ (i : ℕ). i < length things) numbers found.one known found.known) found.passes

-- what is found by cells is there
sound : (table : Table) (t : Thing) → IsTable table → hits_by_cells table t (cells_of t.shape) ≡ true → list_any (clash t) table.things.items ≡ true
sound table t h e = by_test (hits_some table.things.items t table.wide.items) refl e
  where
    by_test : (b : Bool) → hits_some table.things.items t table.wide.items ≡ b → (b || list_any (hits_in table t) (buckets_of (length table.buckets.items) (cells_of t.shape))) ≡ true → list_any (clash t) table.things.items ≡ true
    by_test true is f = some_hit table.things.items t table.wide.items h.wide is
    by_test false is f =
        let found = any_some (hits_in table t) (buckets_of (length table.buckets.items) (cells_of t.shape)) f in
        some_hit table.things.items t (bucket_at table.buckets.items found.one) (h.known found.one) found.passes

-- what clashes is found by cells
complete : (table : Table) (t : Thing) → IsTable table → list_any (clash t) table.things.items ≡ true → hits_by_cells table t (cells_of t.shape) ≡ true
complete table t h e =
    let found = any_some (clash t) table.things.items e in
    let i = found.known.0 in
    let low = found.known.1 in
    let it : thing_at table.things.items i ≡ found.one = get_or_default table.things.items i no_thing found.one low ∙ found.known.2 in
    let clashes : clash t (thing_at table.things.items i) ≡ true = ap (clash t) it ∙ found.passes in
    by_place i clashes (h.found i low)
  where
    by_place : (i : ℕ) → clash t (thing_at table.things.items i) ≡ true → IsFound table i → hits_by_cells table t (cells_of t.shape) ≡ true
    by_place i clashes (inl wide) = or_left _ _ (any_from (λ (k : ℕ). clash t (thing_at table.things.items k)) table.wide.items i wide clashes)
    by_place i clashes (inr all) =
        let n = length table.buckets.items in
        let met : meet t.shape (thing_at table.things.items i).shape ≡ true = (and_parts (not (are_kin t.kin (thing_at table.things.items i).kin)) (meet t.shape (thing_at table.things.items i).shape) clashes).1 in
        let both = shapes_share n t.shape (thing_at table.things.items i).shape met in
        let has : Contains (bucket_at table.buckets.items both.bucket) i =
        All-contains (λ (b : ℕ). Contains (bucket_at table.buckets.items b) i) (buckets_of n (cells_of (thing_at table.things.items i).shape)) both.bucket all both.second in
        or_right _ _ (any_from (hits_in table t) (buckets_of n (cells_of t.shape)) both.bucket both.first (any_from (λ (k : ℕ). clash t (thing_at table.things.items k)) (bucket_at table.buckets.items both.bucket) i has clashes))

pub search_is : (table : Table) (t : Thing) → IsTable table → hits_by_cells table t (cells_of t.shape) ≡ list_any (clash t) table.things.items
search_is table t h = same_tests (hits_by_cells table t (cells_of t.shape)) (list_any (clash t) table.things.items) (sound table t h) (complete table t h)
