-- The forms that the lines of a certificate may have, and what a line of each form says.
use Rattle.std.specs.Prelude.{ℕ, suc, ◌^◌, ◌-◌, ◌==◌, ℤ, pos, negsuc, Bool, true, false, not, ◌&&◌, List, [], ◌∷◌, codes, Option, Some, None, option_map, if◌then◌else◌}
use Rattle.std.specs.Option.{option_and_then}
use Rattle.std.specs.Str.{bytes_eq}
use Rattle.std.specs.List.{list_any}
use Rattle.map_base.specs.declared.ids.LineId.{LineId}
use Rattle.octi_grid.specs.declared.walk.Run.{Run}
use Rattle.octi_grid.specs.Walks.{PlainWalk, walk_by}
use Rattle.decimal_text.specs.Numbers.{natural_within, from_to, number_of}
use Rattle.decimal_text.specs.Lines.{Line, numbered, front}
use Rattle.cert_file.specs.declared.counts.Counts.{Counts}
use Rattle.cert_file.specs.RunWords.{runs_in}

-- the greatest number of a line
abbrev pub most_id : ℕ
most_id = 2 ^ 32 - 1

-- how many nodes, segments and lines there may be
abbrev pub most_nodes : ℕ
most_nodes = 10000

abbrev pub most_segs : ℕ
most_segs = 20000

abbrev pub most_lines : ℕ
most_lines = 1000

-- the greatest importance
abbrev pub most_importance : ℕ
most_importance = 16

-- the greatest cost
abbrev pub most_cost : ℕ
most_cost = 10 ^ 15

abbrev pub line_id : ℕ → LineId
line_id n = record { 0 = n }

-- what the numbers of a line say, where it has this word
abbrev pub spoken : {A : Type 0} → List ℕ → (List ℤ → Option A) → Line → Option A
spoken word form line = if bytes_eq line.word word then form line.numbers else None

abbrev pub with_word : {A : Type 0} → List ℕ → (List ℤ → Option A) → List (List ℕ) → Option A
with_word word form words = option_and_then (spoken word form) (numbered words)

-- what the numbers of the line at the front of a text say, where it has this word, and what stands behind the line
unfoldable pub spoken_front : {A : Type 0} → List ℕ → (List ℤ → Option A) → List ℕ → Option (A × List ℕ)
spoken_front word form text = option_and_then (λ x. option_map (λ a. (a, x.1)) (spoken word form x.0)) (front numbered text)

-- `octimap VERSION`
abbrev pub version_of : List ℤ → Option ℕ
version_of (v ∷ []) = from_to 1 2 v
version_of numbers = None

-- the three counts, where all are there
abbrev pub counts_with : Option ℕ → Option ℕ → Option ℕ → Option Counts
counts_with (Some nodes) (Some segs) (Some lines) = Some (record { nodes = nodes; segs = segs; lines = lines })
counts_with nodes segs lines = None

-- `graph NODES SEGMENTS LINES`
abbrev pub counts_of : List ℤ → Option Counts
counts_of (nodes ∷ segs ∷ lines ∷ []) = counts_with (natural_within most_nodes nodes) (natural_within most_segs segs) (natural_within most_lines lines)
counts_of numbers = None

-- a line whose number is at least `least`, and its importance, from 2 on
abbrev pub pair_with : Option ℕ → Option ℕ → Option (LineId × ℕ)
pair_with None importance = None
pair_with (Some line) None = None
pair_with (Some line) (Some importance) = Some (line_id line, importance)

abbrev pub pair_of : ℕ → ℤ → ℤ → Option (LineId × ℕ)
pair_of least line importance = pair_with (from_to least most_id line) (from_to 2 most_importance importance)

-- lines that rise strictly, each with its importance
abbrev pub pairs_from : ℕ → List ℤ → Option (List (LineId × ℕ))
pairs_from least [] = Some []
pairs_from least (line ∷ []) = None
pairs_from least (line ∷ importance ∷ rest) =
    option_and_then (λ p. option_map (λ more. p ∷ more) (pairs_from (suc p.0.0) rest)) (pair_of least line importance)

-- `importance LINE IMPORTANCE ..`, of at least one line
abbrev pub importance_of : List ℤ → Option (List (LineId × ℕ))
importance_of [] = None
importance_of (line ∷ rest) = pairs_from 0 (line ∷ rest)

-- a number is this one
abbrev pub is_number : ℕ → ℤ → Bool
is_number n (pos m) = n == m
is_number n (negsuc m) = false

-- `walk S X Y RUN ..` of segment s: the start, and at least one run
abbrev pub walk_with : ℕ → Option ℤ → Option ℤ → Option ℤ → Option (List Run) → Option PlainWalk
walk_with s (Some n) (Some x) (Some y) (Some runs) = if is_number s n then walk_by (record { x = x; y = y }) runs else None
walk_with s n x y runs = None

abbrev pub walk_of : ℕ → List (List ℕ) → Option PlainWalk
walk_of s (n ∷ x ∷ y ∷ runs) = walk_with s (number_of n) (number_of x) (number_of y) (runs_in runs)
walk_of s words = None

abbrev pub walk_in : ℕ → List (List ℕ) → Option PlainWalk
walk_in s [] = None
walk_in s (word ∷ rest) = if bytes_eq word (codes "walk") then walk_of s rest else None

-- the line is one of these
abbrev pub is_among : List LineId → LineId → Bool
is_among lines l = list_any (λ (m : LineId). m.0 == l.0) lines

-- no line stands twice
abbrev pub are_distinct : List LineId → Bool
are_distinct [] = true
are_distinct (l ∷ rest) = not (is_among rest l) && are_distinct rest

-- the numbers of lines
abbrev pub numbers_of_lines : List LineId → List ℕ
numbers_of_lines [] = []
numbers_of_lines (l ∷ rest) = l.0 ∷ numbers_of_lines rest

-- lines by their numbers
abbrev pub lines_in : List ℤ → Option (List LineId)
lines_in [] = Some []
lines_in (z ∷ rest) = option_and_then (λ n. option_map (λ more. line_id n ∷ more) (lines_in rest)) (natural_within most_id z)

-- lines, where each is there once
abbrev pub distinct : List LineId → Option (List LineId)
distinct lines = if are_distinct lines then Some lines else None

-- an order: at least one line, and each once
abbrev pub order_in : List ℤ → Option (List LineId)
order_in [] = None
order_in (z ∷ rest) = option_and_then distinct (lines_in (z ∷ rest))

-- `order S LINE ..` of segment s
abbrev pub order_of : ℕ → List ℤ → Option (List LineId)
order_of s [] = None
order_of s (n ∷ lines) = if is_number s n then order_in lines else None

-- `cost C`
abbrev pub cost_of : List ℤ → Option ℕ
cost_of (c ∷ []) = natural_within most_cost c
cost_of numbers = None

-- each form, of the words of a line
abbrev pub version_in : List (List ℕ) → Option ℕ
version_in = with_word (codes "octimap") version_of

abbrev pub counts_in : List (List ℕ) → Option Counts
counts_in = with_word (codes "graph") counts_of

abbrev pub importance_in : List (List ℕ) → Option (List (LineId × ℕ))
importance_in = with_word (codes "importance") importance_of

abbrev pub orders_in : ℕ → List (List ℕ) → Option (List LineId)
orders_in s = with_word (codes "order") (order_of s)

abbrev pub cost_in : List (List ℕ) → Option ℕ
cost_in = with_word (codes "cost") cost_of
