-- Steps as words: a direction and how many steps go that way, as `NE12`.
use Rattle.std.specs.Prelude.{ℕ, suc, ◌==◌, List, [], ◌∷◌, ◌++◌, take, drop, codes, Option, Some, None, option_map, if◌then◌else◌}
use Rattle.std.specs.Option.{option_and_then}
use Rattle.std.specs.Char.{is_ascii_digit}
use Rattle.std.specs.Str.{bytes_eq}
use Rattle.std.specs.Fmt.{decimal}
use Rattle.std.specs.List.{position_or_len}
use Rattle.octi_grid.specs.declared.dir.Dir.{Dir}
use Rattle.octi_grid.specs.declared.dir.Dir.TheVariants as dir
use Rattle.octi_grid.specs.declared.walk.Run.{Run}
use Rattle.octi_grid.specs.Ways.{number_of}
use Rattle.decimal_text.specs.Numbers as numbers

-- a step before runs: the first run has it where it goes that way, else it is a run of its own
abbrev pub with_step : Dir → List Run → List Run
with_step d [] = record { dir = d; count = 1 } ∷ []
with_step d (r ∷ rs) = if number_of d == number_of r.dir then record { dir = r.dir; count = suc r.count } ∷ rs else record { dir = d; count = 1 } ∷ r ∷ rs

-- steps as runs, of which neighbours go different ways
abbrev pub runs_of : List Dir → List Run
runs_of [] = []
runs_of (d ∷ ds) = with_step d (runs_of ds)

-- the name of a direction
abbrev pub dir_text : Dir → List ℕ
dir_text dir.N = codes "N"
dir_text dir.NE = codes "NE"
dir_text dir.E = codes "E"
dir_text dir.SE = codes "SE"
dir_text dir.S = codes "S"
dir_text dir.SW = codes "SW"
dir_text dir.W = codes "W"
dir_text dir.NW = codes "NW"

-- a run as a word
abbrev pub run_word : Run → List ℕ
run_word r = dir_text r.dir ++ decimal r.count

abbrev pub run_words : List Run → List (List ℕ)
run_words [] = []
run_words (r ∷ rs) = run_word r ∷ run_words rs

-- the direction with this name
abbrev pub dir_of : List ℕ → Option Dir
dir_of text =
    if bytes_eq text (dir_text dir.N) then Some dir.N
    else if bytes_eq text (dir_text dir.NE) then Some dir.NE
    else if bytes_eq text (dir_text dir.E) then Some dir.E
    else if bytes_eq text (dir_text dir.SE) then Some dir.SE
    else if bytes_eq text (dir_text dir.S) then Some dir.S
    else if bytes_eq text (dir_text dir.SW) then Some dir.SW
    else if bytes_eq text (dir_text dir.W) then Some dir.W
    else if bytes_eq text (dir_text dir.NW) then Some dir.NW
    else None

-- a longer run than the grid is wide does not stay in it
abbrev pub most_steps : ℕ
most_steps = 20000

-- a run of a direction and a number of steps, where both are there
abbrev pub run_with : Option Dir → Option ℕ → Option Run
run_with None count = None
run_with (Some d) None = None
run_with (Some d) (Some count) = Some (record { dir = d; count = count })

-- where the name of the direction ends: at the first digit
abbrev pub name_end : List ℕ → ℕ
name_end word = position_or_len is_ascii_digit word

-- the run that a word writes: a direction and at least one step
abbrev pub run_of : List ℕ → Option Run
run_of word =
    run_with (dir_of (take (name_end word) word)) (option_and_then (numbers.from_to 1 most_steps) (numbers.number_of (drop (name_end word) word)))

-- a run before others, where both are there
abbrev pub run_before : Option Run → Option (List Run) → Option (List Run)
run_before None rest = None
run_before (Some r) None = None
run_before (Some r) (Some rest) = Some (r ∷ rest)

-- the runs that words write, where each writes one
abbrev pub runs_in : List (List ℕ) → Option (List Run)
runs_in [] = Some []
runs_in (word ∷ rest) = run_before (run_of word) (runs_in rest)

-- runs, and behind them those that words write, where each word writes one
abbrev pub runs_behind : List Run → List (List ℕ) → Option (List Run)
runs_behind runs words = option_map (λ more. runs ++ more) (runs_in words)
