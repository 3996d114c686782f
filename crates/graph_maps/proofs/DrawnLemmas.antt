-- The lines that are marked are those that stand on segments.
use Rattle.std.proofs.Common.{◌≡◌, ◌≢◌, ◌∙◌, ap, sym, refl, subst, ℕ, zero, suc, ◌+◌, ◌<◌, ◌≤◌, ◌==◌, ◌||◌, Bool, true, false, true≢false, cond, List, [], ◌∷◌, length, map, drop, get_or, replicate, Some, arith, set, get_or-set_same, get_or-set_other, length-set, eqb-true, eq-eqb, All}
use Rattle.std.specs.List.{AllByRecursion, filter, list_any, range_with_len, slice_get}
use Rattle.std.proofs.Math.Bool.{or_assoc, or_comm, or-false}
use Rattle.std.proofs.lemmas.List.{at_drop_more, length-replicate}
use Rattle.std.proofs.lemmas.List.Sums.{length-filter, count_by-le-length}
use Rattle.std.proofs.lemmas.Option.{same_Some, slice_get_within, slice_get-get_or}
use Rattle.std.proofs.lemmas.List.FromFn.{length-map-range_with_len}
use Rattle.std.proofs.lemmas.List.Elements.{All-head, All-tail, All-filter, All-from_recursion}
use Rattle.map_base.specs.declared.ids.LineId.{LineId}
use Rattle.order_model.specs.Places.{has_line}
use Rattle.graph_core.specs.declared.parts.GraphParts.{GraphParts}
use Rattle.graph_maps.specs.Certificates.{line_numbered, is_drawn, drawn_lines}
use Rattle.graph_maps.specs.DrawnLines.{after_lines, after_segments, marked_lines}

-- the line stands on one of the segments
abbrev on_some : List (List LineId) → LineId → Bool
on_some segs a = list_any (λ (lines : List LineId). has_line lines a) segs

pub length-after_lines : (lines : List LineId) (marks : List Bool) → length (after_lines lines marks) ≡ length marks
length-after_lines [] marks = refl
length-after_lines (a ∷ lines) marks = length-after_lines lines (set marks a.0 true) ∙ length-set marks a.0 true

-- a mark that is set
set_mark : (marks : List Bool) (i k : ℕ) → i < length marks → get_or (set marks i true) k false ≡ ((i == k) || get_or marks k false)
set_mark marks i k below = by_test (i == k) refl
  where
    by_test : (b : Bool) → (i == k) ≡ b → get_or (set marks i true) k false ≡ (b || get_or marks k false)
    by_test true e = subst (λ (n : ℕ). get_or (set marks i true) n false ≡ true) (eqb-true i k e) (get_or-set_same marks i true false below)
    by_test false e =
        let apart : k ≢ i = λ (h : k ≡ i). true≢false (sym (eq-eqb i k (sym h)) ∙ e) in
        get_or-set_other marks i k true false apart

-- marks after lines: those that were set, and those of the lines
after_lines_at : (lines : List LineId) (marks : List Bool) (k : ℕ) → All (λ (a : LineId). a.0 < length marks) lines
    → get_or (after_lines lines marks) k false ≡ (has_line lines (line_numbered k) || get_or marks k false)
after_lines_at [] marks k below = refl
after_lines_at (a ∷ lines) marks k below =
    let here : a.0 < length marks = All-head (λ (b : LineId). b.0 < length marks) a lines below in
    let later : All (λ (b : LineId). b.0 < length (set marks a.0 true)) lines =
    subst (λ (n : ℕ). All (λ (b : LineId). b.0 < n) lines) (sym (length-set marks a.0 true)) (All-tail (λ (b : LineId). b.0 < length marks) a lines below) in
    after_lines_at lines (set marks a.0 true) k later
    ∙ ap (λ (b : Bool). has_line lines (line_numbered k) || b) (set_mark marks a.0 k here)
    ∙ sym (or_assoc (has_line lines (line_numbered k)) (a.0 == k) (get_or marks k false))
    ∙ ap (λ (b : Bool). b || get_or marks k false) (or_comm (has_line lines (line_numbered k)) (a.0 == k))

pub after_segments_at : (segs : List (List LineId)) (marks : List Bool) (k : ℕ) → All (All (λ (a : LineId). a.0 < length marks)) segs
    → get_or (after_segments segs marks) k false ≡ (on_some segs (line_numbered k) || get_or marks k false)
after_segments_at [] marks k below = refl
after_segments_at (lines ∷ segs) marks k below =
    let here : All (λ (a : LineId). a.0 < length marks) lines = All-head (All (λ (a : LineId). a.0 < length marks)) lines segs below in
    let later : All (All (λ (a : LineId). a.0 < length (after_lines lines marks))) segs =
    subst (λ (n : ℕ). All (All (λ (a : LineId). a.0 < n)) segs) (sym (length-after_lines lines marks)) (All-tail (All (λ (a : LineId). a.0 < length marks)) lines segs below) in
    after_segments_at segs (after_lines lines marks) k later
    ∙ ap (λ (b : Bool). on_some segs (line_numbered k) || b) (after_lines_at lines marks k here)
    ∙ sym (or_assoc (on_some segs (line_numbered k)) (has_line lines (line_numbered k)) (get_or marks k false))
    ∙ ap (λ (b : Bool). b || get_or marks k false)
    (or_comm (on_some segs (line_numbered k)) (has_line lines (line_numbered k)))

-- the lines that are marked, by what each mark says
marked_by : (marks : List Bool) (n : ℕ) (test : LineId → Bool) → ((k : ℕ) → k < length marks → get_or marks k false ≡ test (line_numbered (n + k)))
    → marked_lines n marks ≡ filter test (map line_numbered (range_with_len n (length marks)))
marked_by [] n test told = refl
marked_by (mark ∷ marks) n test told =
    by_mark mark (test (line_numbered n)) (told 0 (omega arith) ∙ ap (λ (i : ℕ). test (line_numbered i)) (let e : n + 0 ≡ n = omega arith in e))
    (marked_by marks (n + 1) test (λ k below. told (suc k) (omega (arith, below)) ∙ ap (λ (i : ℕ). test (line_numbered i)) (let e : n + suc k ≡ n + 1 + k = omega arith in e)))
  where
    by_mark : (b c : Bool) → b ≡ c → marked_lines (n + 1) marks ≡ filter test (map line_numbered (range_with_len (n + 1) (length marks)))
        → cond b (line_numbered n ∷ marked_lines (n + 1) marks) (marked_lines (n + 1) marks)
        ≡ cond c (line_numbered n ∷ filter test (map line_numbered (range_with_len (n + 1) (length marks)))) (filter test (map line_numbered (range_with_len (n + 1) (length marks))))
    by_mark true true e later = ap (λ (rest : List LineId). line_numbered n ∷ rest) later
    by_mark false false e later = later
    by_mark true false e later = absurd (true≢false e)
    by_mark false true e later = absurd (true≢false (sym e))

-- from no marks on
pub marked_are_drawn : (segs : List (List LineId)) (count : ℕ) (marks : List Bool) → length marks ≡ count → ((k : ℕ) → get_or marks k false ≡ false)
    → All (All (λ (a : LineId). a.0 < count)) segs → length (after_segments segs marks) ≡ count
    → marked_lines 0 (after_segments segs marks) ≡ filter (on_some segs) (map line_numbered (range_with_len 0 count))
marked_are_drawn segs count marks each none below same =
    let told : (k : ℕ) → k < length (after_segments segs marks) → get_or (after_segments segs marks) k false ≡ on_some segs (line_numbered (0 + k)) =
    λ k h. after_segments_at segs marks k (subst (λ (n : ℕ). All (All (λ (a : LineId). a.0 < n)) segs) (sym each) below)
    ∙ ap (λ (b : Bool). on_some segs (line_numbered k) || b) (none k) ∙ or-false (on_some segs (line_numbered k))
    ∙ ap (λ (i : ℕ). on_some segs (line_numbered i)) (let e : k ≡ 0 + k = omega arith in e) in
    marked_by (after_segments segs marks) 0 (on_some segs) told
    ∙ ap (λ (n : ℕ). filter (on_some segs) (map line_numbered (range_with_len 0 n))) same

pub length-after_segments : (segs : List (List LineId)) (marks : List Bool) → length (after_segments segs marks) ≡ length marks
length-after_segments [] marks = refl
length-after_segments (lines ∷ segs) marks = length-after_segments segs (after_lines lines marks) ∙ length-after_lines lines marks

-- a step of the loop over segments
pub segments_more : (segs : List (List LineId)) (s : ℕ) (lines : List LineId) (marks after start : List Bool) → slice_get segs s ≡ Some lines
    → after ≡ after_lines lines marks → after_segments (drop s segs) marks ≡ start → after_segments (drop (s + 1) segs) after ≡ start
segments_more segs s lines marks after start is step so_far =
    let below : s < length segs = slice_get_within segs s lines is in
    let here : get_or segs s lines ≡ lines =
    same_Some (get_or segs s lines) lines (sym (slice_get-get_or segs s lines below) ∙ is) in
    let more : after_segments (drop s segs) marks ≡ after_segments (get_or segs s lines ∷ drop (s + 1) segs) marks =
    at_drop_more (λ (rest : List (List LineId)). after_segments rest marks) segs s lines below in
    ap (after_segments (drop (s + 1) segs)) (step ∙ ap (λ (ls : List LineId). after_lines ls marks) (sym here)) ∙ sym more ∙ so_far

replicate_none : (count k : ℕ) → get_or (replicate count false) k false ≡ false
replicate_none zero k = refl
replicate_none (suc count) zero = refl
replicate_none (suc count) (suc k) = replicate_none count k

-- the lines that are marked after all segments, where none was before
pub drawn_after : (graph : GraphParts) (count : ℕ) (marks : List Bool) → marks ≡ replicate count false → All (All (λ (a : LineId). a.0 < count)) graph.lines
    → marked_lines 0 (after_segments graph.lines marks) ≡ drawn_lines count graph
drawn_after graph count marks none below =
    let each : length marks ≡ count = ap length none ∙ length-replicate count false in
    marked_are_drawn graph.lines count marks each (λ k. ap (λ (m : List Bool). get_or m k false) none ∙ replicate_none count k) below
    (length-after_segments graph.lines marks ∙ each)

numbered_below : (most start n : ℕ) → start + n ≤ most → AllByRecursion (λ (a : LineId). a.0 < most) (map line_numbered (range_with_len start n))
numbered_below most start zero h = tt
numbered_below most start (suc n) h = (omega (arith, h), numbered_below most (start + 1) n (omega (arith, h)))

-- the lines on segments are below their count, and no more
drawn_below : (count : ℕ) (graph : GraphParts) → All (λ (a : LineId). a.0 < count) (drawn_lines count graph)
drawn_below count graph =
    let lines : List LineId = map line_numbered (range_with_len 0 count) in
    All-filter (is_drawn graph) (λ (a : LineId). a.0 < count) lines
    (All-from_recursion (λ (a : LineId). a.0 < count) lines (numbered_below count 0 count (omega arith)))

pub drawn_within : (graph : GraphParts) (count n : ℕ) (lines : List LineId) → lines ≡ drawn_lines count graph → count ≡ n
    → All (λ (a : LineId). a.0 < n) lines
drawn_within graph count n lines are each =
    subst (λ (m : ℕ). All (λ (a : LineId). a.0 < m) lines) each
    (subst (All (λ (a : LineId). a.0 < count)) (sym are) (drawn_below count graph))

pub drawn_few : (count : ℕ) (graph : GraphParts) → length (drawn_lines count graph) ≤ count
drawn_few count graph =
    let lines : List LineId = map line_numbered (range_with_len 0 count) in
    omega (
      arith,
      length-filter (is_drawn graph) lines,
      count_by-le-length (is_drawn graph) lines,
      length-map-range_with_len line_numbered 0 count,
    )
