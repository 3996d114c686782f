-- The lines of a script, taken one at a time.
use Rattle.std.proofs.Common.{◌≡◌, ◌≢◌, ◌==◌, ℕ, ◌+◌, ◌<◌, Bool, List, [], ◌∷◌, length, get_or, take, drop, refl, ap, sym, ◌∙◌, arith, if◌then◌else◌}
use Rattle.std.specs.List.{slice_split, position_or_len}
use Rattle.std.specs.Str.Lines.{lines, lines_of_parts, strip_carriage_return}
use Rattle.std.proofs.lemmas.Bool.{ne_eqb}
use Rattle.std.proofs.lemmas.List.{drop_more, take_all}
use Rattle.map_edits.specs.Words.{parts_behind}
use Rattle.map_edits.specs.Lines.{line_before}
use Rattle.map_edits.proofs.WordLemmas.{front_part}

abbrev pub is_end : ℕ → Bool
is_end byte = byte == 10

drop_whole : (text : List ℕ) → drop (length text) text ≡ []
drop_whole [] = refl
drop_whole (x ∷ xs) = drop_whole xs

alone : (text : List ℕ) → 0 < length text → lines_of_parts (text ∷ []) ≡ text ∷ []
alone [] some = absurd (omega arith)
alone (x ∷ xs) some =
    let other : length (x ∷ xs) ≢ 0 = λ e. omega arith in
    ap (λ (b : Bool). if b then [] else (x ∷ xs) ∷ []) (ne_eqb (length (x ∷ xs)) 0 other)

-- the last line, where it has no end
pub last_line : (text line behind : List ℕ) (k : ℕ) → 0 < length text → k ≡ position_or_len is_end text → k ≡ length text → line ≡ take k text → behind ≡ drop k text
    → lines text ≡ line ∷ lines behind
last_line text line behind k some place whole is_line is_behind =
    let ends : position_or_len is_end text ≡ length text = cc in
    let line_is : text ≡ line = sym (take_all (length text) text (omega arith)) ∙ ap (λ (n : ℕ). take n text) (sym whole) ∙ sym is_line in
    let behind_is : [] ≡ behind = sym (drop_whole text) ∙ ap (λ (n : ℕ). drop n text) (sym whole) ∙ sym is_behind in
    let parts : slice_split is_end text ≡ text ∷ [] =
    front_part is_end text
    ∙ ap (λ (n : ℕ). take n text ∷ parts_behind is_end (drop n text)) ends
    ∙ ap (λ (w : List ℕ). w ∷ parts_behind is_end (drop (length text) text)) (take_all (length text) text (omega arith))
    ∙ ap (λ (b : List ℕ). text ∷ parts_behind is_end b) (drop_whole text) in
    ap lines_of_parts parts ∙ alone text some ∙ ap (λ (w : List ℕ). w ∷ []) line_is ∙ ap (λ (b : List ℕ). line ∷ lines b) behind_is

-- a part that is not the last is a line, less the CR at its end
more_parts : (x text : List ℕ) → lines_of_parts (x ∷ slice_split is_end text) ≡ strip_carriage_return x ∷ lines text
more_parts x text =
    let front = front_part is_end text in
    ap (λ (ps : List (List ℕ)). lines_of_parts (x ∷ ps)) front ∙ ap (λ (ps : List (List ℕ)). strip_carriage_return x ∷ lines_of_parts ps) (sym front)

-- the first line, where it has an end
pub first_line : (text whole line behind left : List ℕ) (k : ℕ) → k < length text → k ≡ position_or_len is_end text → whole ≡ take k text → behind ≡ drop k text → line ≡ line_before whole
    → left ≡ drop 1 behind → lines text ≡ line ∷ lines left
first_line text whole line behind left k low place is_whole is_behind is_line is_left =
    let rest = drop (k + 1) text in
    let cut : drop k text ≡ get_or text k 0 ∷ rest = drop_more text k 0 low in
    let left_is : rest ≡ left = ap (drop 1) (sym cut) ∙ ap (drop 1) (sym is_behind) ∙ sym is_left in
    let parts : slice_split is_end text ≡ whole ∷ slice_split is_end rest =
    front_part is_end text
    ∙ ap (λ (n : ℕ). take n text ∷ parts_behind is_end (drop n text)) (sym place)
    ∙ ap (λ (w : List ℕ). w ∷ parts_behind is_end (drop k text)) (sym is_whole)
    ∙ ap (λ (b : List ℕ). whole ∷ parts_behind is_end b) cut in
    ap lines_of_parts parts ∙ more_parts whole rest ∙ ap (λ (w : List ℕ). w ∷ lines rest) (sym is_line) ∙ ap (λ (b : List ℕ). line ∷ lines b) left_is
