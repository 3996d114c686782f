-- Where an id stands among pairs by rising ids.
use Rattle.std.specs.Prelude.{◌≡◌, ℕ, ◌<◌, ◌≤◌, List, [], length, Result, Ok, Err}
use Rattle.std.specs.declared.cmp.Ordering.{Ordering}
use Rattle.std.specs.declared.cmp.Ordering.TheVariants.{Less, Equal, Greater}
use Rattle.std.specs.Ordering.{nat_cmp}
use Rattle.std.specs.List.{slice_index_or}
use Rattle.std.specs.Cmp.Lexicographic.{slice_cmp}

-- how the id of the pair at a place lies to an id
abbrev pub order_at : List (List ℕ × ℕ) → List ℕ → ℕ → Ordering
order_at pairs id place = slice_cmp nat_cmp (slice_index_or pairs place ([], 0)).0 id

-- the id is that of the pair at this place
pub record IsPair (pairs : List (List ℕ × ℕ)) (id : List ℕ) (place : ℕ) : Type 0 where
  pub within : place < length pairs
  pub equal : order_at pairs id place ≡ Equal

-- the pairs before this place have lower ids, and the others greater ones
pub record IsGap (pairs : List (List ℕ × ℕ)) (id : List ℕ) (place : ℕ) : Type 0 where
  pub within : place ≤ length pairs
  pub lower : (k : ℕ) → k < place → order_at pairs id k ≡ Less
  pub greater : (k : ℕ) → place ≤ k → k < length pairs → order_at pairs id k ≡ Greater

-- where an id stands, or else where it goes
abbrev pub IsPairPlace : List (List ℕ × ℕ) → List ℕ → Result ℕ ℕ → Type 0
IsPairPlace pairs id (Ok place) = IsPair pairs id place
IsPairPlace pairs id (Err place) = IsGap pairs id place
