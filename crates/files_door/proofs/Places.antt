-- A file of a path, and the file at a place.
use Rattle.std.proofs.Common.{◌≡◌, ℕ, ◌<◌, zero, suc, List, [], ◌∷◌, length, Option, None, Some, Vec, cond, true, false, Bool, refl, ap, ◌∙◌, sym, arith, position, is_some, unwrap_or, get_or, nat_lt, not, ◌+◌, ◌≤◌, ◌⊎◌, inl, inr}
use Rattle.std.proofs.lemmas.Bool.{cases_lt, le-ltb, lt-ltb}
use Rattle.std.specs.declared.alloc.Global.{Global}
use Rattle.std.specs.List.{position_or_len}
use Rattle.std.specs.Option.{option_map}
use Rattle.std.specs.Str.{bytes_eq}
use Rattle.files_door.specs.Files.{file_at}
use Rattle.files_door.specs.FilesInMemory.{entry, entries, bytes_at, begun_bytes}

-- the first place at which a test passes, by cases on the list
position-test : (passes : Bool) (n m : ℕ) → cond (nat_lt (cond (not passes) (1 + n) 0) (suc m)) (Some (cond (not passes) (1 + n) 0)) None ≡ cond passes (Some 0) (option_map suc (cond (nat_lt n m) (Some n) None))
position-test true n m = ap (λ b. cond b (Some 0) None) (lt-ltb 0 (suc m) (omega arith))
position-test false n m = at (cases_lt n m)
  where
    at : (n < m) ⊎ (m ≤ n) → cond (nat_lt (1 + n) (suc m)) (Some (1 + n)) None ≡ option_map suc (cond (nat_lt n m) (Some n) None)
    at (inl lt) = rw (lt-ltb (1 + n) (suc m) (omega arith), lt-ltb n m lt) (ap Some (omega arith))
    at (inr le) = rw (le-ltb (1 + n) (suc m) (omega arith), le-ltb n m le) refl

pub position-cons : {X : Type 0} (p : X → Bool) (x : X) (xs : List X) → position p (x ∷ xs) ≡ cond (p x) (Some 0) (option_map suc (position p xs))
position-cons p x xs = position-test (p x) (position_or_len p xs) (length xs)

abbrev place_in : List (List ℕ × Vec ℕ Global) → List ℕ → Option ℕ
place_in files path = position (λ file. bytes_eq file.0 path) files

next_place : (files : List (List ℕ × List ℕ)) (file : List ℕ × List ℕ) (place : Option ℕ) → option_map (bytes_at files) place ≡ option_map (bytes_at (file ∷ files)) (option_map suc place)
next_place files file None = refl
next_place files file (Some place) = refl

by_test : (file : List ℕ × List ℕ) (files : List (List ℕ × List ℕ)) (found : Option (List ℕ)) (place : Option ℕ) (same : Bool) → found ≡ option_map (bytes_at files) place → cond same (Some file.1) found ≡ option_map (bytes_at (file ∷ files)) (cond same (Some 0) (option_map suc place))
by_test file files found place true h = refl
by_test file files found place false h = h ∙ next_place files file place

-- the file of a path is the one at its place
file_at_place : (files : List (List ℕ × Vec ℕ Global)) (path : List ℕ) → file_at (entries files) path ≡ option_map (bytes_at (entries files)) (place_in files path)
file_at_place [] path = refl
file_at_place (file ∷ files) path =
    by_test (entry file) (entries files) (file_at (entries files) path) (place_in files path) (bytes_eq file.0 path) (file_at_place files path)
    ∙ ap (option_map (bytes_at (entries (file ∷ files)))) (sym (position-cons (λ (f : List ℕ × Vec ℕ Global). bytes_eq f.0 path) file files))

-- it is there where it has a place
pub is_some_place : (files : List (List ℕ × Vec ℕ Global)) (path : List ℕ) (place : Option ℕ) → place ≡ place_in files path → is_some place ≡ is_some (file_at (entries files) path)
is_some_place files path place is = ap is_some is ∙ mapped (place_in files path) ∙ sym (ap is_some (file_at_place files path))
  where
    mapped : (o : Option ℕ) → is_some o ≡ is_some (option_map (bytes_at (entries files)) o)
    mapped None = refl
    mapped (Some n) = refl

-- the bytes of the file that is begun
pub begun_place : (files : List (List ℕ × Vec ℕ Global)) (path : List ℕ) (place : Option ℕ) → place ≡ place_in files path → begun_bytes (entries files) place ≡ unwrap_or (file_at (entries files) path) []
begun_place files path place is = ap (begun_bytes (entries files)) is ∙ mapped (place_in files path) ∙ sym (ap (λ (o : Option (List ℕ)). unwrap_or o []) (file_at_place files path))
  where
    mapped : (o : Option ℕ) → begun_bytes (entries files) o ≡ unwrap_or (option_map (bytes_at (entries files)) o) []
    mapped None = refl
    mapped (Some n) = refl

bytes_at_read : (files : List (List ℕ × Vec ℕ Global)) (place : ℕ) (file : List ℕ × Vec ℕ Global) → place < length files → bytes_at (entries files) place ≡ (get_or files place file).1.items
bytes_at_read [] place file h = absurd (omega arith)
bytes_at_read (first ∷ files) zero file h = refl
bytes_at_read (first ∷ files) (suc place) file h = bytes_at_read files place file (omega arith)

-- the begun file, as the vector is read at its place
pub begun_read : (files : List (List ℕ × Vec ℕ Global)) (begun : Option ℕ) (place : ℕ) (file : List ℕ × Vec ℕ Global) (bytes : List ℕ)
    → begun ≡ Some place → place < length files → bytes ≡ (get_or files place file).1.items → begun_bytes (entries files) begun ≡ bytes
begun_read files begun place file bytes is h read = ap (begun_bytes (entries files)) is ∙ bytes_at_read files place file h ∙ sym read
