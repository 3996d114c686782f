-- The values of `--set` among the words of a command line.
use Rattle.std.specs.Prelude.{ℕ, Bool, true, false, List, [], ◌∷◌, drop, map, codes, nat_eq, Option, None, Some, String, string_bytes, if◌then◌else◌}
use Rattle.std.specs.declared.alloc.Global.{Global}
use Rattle.std.specs.List.{starts_with}
use Rattle.std.specs.Str.{bytes_eq}

-- what stands behind `--set=` in a word, if it begins so
abbrev pub set_joined : List ℕ → Option (List ℕ)
set_joined word = if starts_with nat_eq word (codes "--set=") then Some (drop 6 word) else None

-- a value, if there is one, before others
abbrev pub with_set : Option (List ℕ) → List (List ℕ) → List (List ℕ)
with_set None more = more
with_set (Some value) more = value ∷ more

-- The values, in their order: the word behind `--set`, or what stands behind `--set=`; from `--` on there are none. The flag
-- says whether the word before was `--set`.
abbrev pub sets_from : Bool → List (List ℕ) → List (List ℕ)
sets_from behind [] = []
sets_from true (word ∷ more) = word ∷ sets_from false more
sets_from false (word ∷ more) =
    if bytes_eq word (codes "--") then []
    else if bytes_eq word (codes "--set") then sets_from true more
    else with_set (set_joined word) (sets_from false more)

abbrev pub sets_in : List (List ℕ) → List (List ℕ)
sets_in words = sets_from false words

-- the values of `--set` in the words of the program
abbrev pub sets_of : List (String Global) → List (List ℕ)
sets_of words = sets_in (map string_bytes words)

-- the first value, and those behind it
abbrev pub sets_cut : Option (List ℕ × List (List ℕ)) → List (List ℕ)
sets_cut None = []
sets_cut (Some cut) = cut.0 ∷ sets_in cut.1
