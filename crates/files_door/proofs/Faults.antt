-- A count of faults over one call after another.
use Rattle.std.proofs.Common.{◌≢◌, ◌≡◌, ℕ, ◌-◌, ◌^◌, ◌<◌, ◌≤◌, ◌⊎◌, inl, inr, arith}
use Rattle.std.proofs.lemmas.Bool.{cases_eq}
use Rattle.files_door.specs.Fault.{Rose}

-- it rose in the later of two calls
pub rose_later : (before mid now : ℕ) → before ≤ mid → mid ≤ now → Rose mid now → Rose before now
rose_later before mid now p q rose ne = at (cases_eq mid (2 ^ 64 - 1))
  where
    at : (mid ≡ 2 ^ 64 - 1) ⊎ (mid ≢ 2 ^ 64 - 1) → before < now
    at (inl top) = omega arith
    at (inr below) = let up : mid < now = rose below in omega arith

-- it rose in the earlier of two calls
pub rose_earlier : (before mid now : ℕ) → Rose before mid → mid ≤ now → Rose before now
rose_earlier before mid now rose q ne = let up : before < mid = rose ne in omega arith
