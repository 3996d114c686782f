-- A table of things by the cells that they reach into.
use Rattle.std.specs.Prelude.{◌≡◌, ℕ, zero, suc, ◌<◌, ◌⊎◌, ◌||◌, Bool, List, [], ◌∷◌, length, All, Contains, slice_index_or, pos, Vec}
use Rattle.std.specs.List.{list_any}
use Rattle.std.specs.Global.{Global}
use Rattle.eight_sides.specs.Shapes.{IsShortShape}
use Rattle.poster_table.specs.declared.cells.Cells.{Cells}
use Rattle.poster_plan.specs.declared.things.Kin.TheVariants.{Nobody}
use Rattle.poster_plan.specs.declared.things.Thing.{Thing}
use Rattle.poster_table.specs.declared.table.Table.{Table}
use Rattle.poster_table.specs.Cells.{buckets_of, cells_of}
use Rattle.poster_plan.specs.Things.{clash}

-- a thing of numbers that can be reckoned with
abbrev pub IsShortThing : Thing → Type 0
IsShortThing t = IsShortShape t.shape

-- what reads past the things fall back on
abbrev pub no_thing : Thing
no_thing =
    record {
      shape = record {
        across = record { least = pos 0; greatest = pos 0 };
        down = record { least = pos 0; greatest = pos 0 };
        difference = record { least = pos 0; greatest = pos 0 };
        sum = record { least = pos 0; greatest = pos 0 };
      };
      kin = Nobody;
    }

-- the thing of a number
abbrev pub thing_at : List Thing → ℕ → Thing
thing_at things i = slice_index_or things i no_thing

-- the numbers in a bucket
abbrev pub bucket_at : List (Vec ℕ Global) → ℕ → List ℕ
bucket_at [] b = []
bucket_at (v ∷ vs) zero = v.items
bucket_at (v ∷ vs) (suc b) = bucket_at vs b

-- these numbers are of a list
abbrev pub AreBelow : ℕ → List ℕ → Type 0
AreBelow count numbers = All (λ (i : ℕ). i < count) numbers

-- thing i is found in each bucket of its cells, or by each search
abbrev pub IsFound : Table → ℕ → Type 0
IsFound table i =
    Contains table.wide.items i
    ⊎ All (λ (b : ℕ). Contains (bucket_at table.buckets.items b) i) (buckets_of (length table.buckets.items) (cells_of (thing_at table.things.items i).shape))

-- each thing is found, and nothing else
pub record IsTable (table : Table) : Type 0 where
  pub some : 0 < length table.buckets.items
  pub short : All IsShortThing table.things.items
  pub wide : AreBelow (length table.things.items) table.wide.items
  pub known : (b : ℕ) → AreBelow (length table.things.items) (bucket_at table.buckets.items b)
  pub found : (i : ℕ) → i < length table.things.items → IsFound table i

-- a number is put into these buckets, and nothing else is
pub record PutsIn (old new : List (Vec ℕ Global)) (buckets : List ℕ) (number : ℕ) : Type 0 where
  pub count : length new ≡ length old
  pub keeps : (b i : ℕ) → Contains (bucket_at old b) i → Contains (bucket_at new b) i
  pub has : All (λ (b : ℕ). Contains (bucket_at new b) number) buckets
  pub only : (b : ℕ) → All (λ (i : ℕ). Contains (bucket_at old b) i ⊎ (i ≡ number)) (bucket_at new b)

-- a thing clashes with one of these numbers
abbrev pub hits_some : List Thing → Thing → List ℕ → Bool
hits_some things t numbers = list_any (λ (i : ℕ). clash t (thing_at things i)) numbers

-- it clashes with one in a bucket
abbrev pub hits_in : Table → Thing → ℕ → Bool
hits_in table t b = hits_some table.things.items t (bucket_at table.buckets.items b)

-- what a search by cells says
abbrev pub hits_by_cells : Table → Thing → Cells → Bool
hits_by_cells table t cells = hits_some table.things.items t table.wide.items || list_any (hits_in table t) (buckets_of (length table.buckets.items) cells)
