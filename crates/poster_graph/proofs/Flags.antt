-- Lines that are flagged.
use Rattle.std.proofs.Common.{◌≡◌, ℕ, zero, suc, ◌+◌, ◌<◌, ◌≤◌, ◌≢◌, ◌==◌, Bool, true, false, cond, ◌||◌, ◌&&◌, List, [], ◌∷◌, ◌++◌, length, map, filter, get_or, set, take, replicate, Some, refl, ap, sym, ◌∙◌, arith}
use Rattle.std.specs.Prelude.{slice_get}
use Rattle.std.specs.List.{list_any, range_with_len}
use Rattle.std.proofs.lemmas.Bool.{eqb-true, eq-eqb, false≢true}
use Rattle.std.proofs.lemmas.List.{get_or-replicate, get_or-set_other, get_or-set_same, length-replicate, map-append, take_more}
use Rattle.std.proofs.lemmas.List.Elements.{filter-append}
use Rattle.std.proofs.lemmas.List.Folds.{list_any-append}
use Rattle.std.proofs.lemmas.Option.{get_or_from_slice_get}
use Rattle.svg_writer.proofs.Ranges.{range_more}
use Rattle.map_base.specs.declared.ids.LineId.{LineId}
use Rattle.graph_core.specs.declared.parts.GraphParts.{GraphParts}
use Rattle.poster_rules.specs.Stations.{has_line}
use Rattle.poster_rules.specs.Plans.{is_on_some, line_numbered, lines_shown}
use Rattle.poster_graph.specs.Flags.{flagged, is_on, AreFlags}

pub or_false : (b : Bool) → (b || false) ≡ b
or_false true = refl
or_false false = refl

or_assoc : (a b c : Bool) → ((a || b) || c) ≡ (a || (b || c))
or_assoc true b c = refl
or_assoc false b c = refl

or_true : (b : Bool) → (b || true) ≡ true
or_true true = refl
or_true false = refl

and_true : (b : Bool) → (b && true) ≡ b
and_true true = refl
and_true false = refl

and_false : (b : Bool) → (b && false) ≡ false
and_false true = refl
and_false false = refl

-- a flag that is set
pub set_flag : (flags : List Bool) (n k : ℕ) → n < length flags → get_or (set flags n true) k false ≡ (get_or flags k false || n == k)
set_flag flags n k low = by_test (n == k) refl
  where
    by_test : (b : Bool) → (n == k) ≡ b → get_or (set flags n true) k false ≡ (get_or flags k false || n == k)
    by_test true one =
        let is : n ≡ k = eqb-true n k one in
        ap (λ (m : ℕ). get_or (set flags n true) m false) (sym is) ∙ get_or-set_same flags n true false low
        ∙ sym (ap (λ (b : Bool). get_or flags k false || b) one ∙ or_true (get_or flags k false))
    by_test false other =
        let apart : k ≢ n = λ e. false≢true (sym other ∙ eq-eqb n k (sym e)) in
        get_or-set_other flags n k true false apart
        ∙ sym (ap (λ (b : Bool). get_or flags k false || b) other ∙ or_false (get_or flags k false))

-- the same where a test says so, and where it does not
pub set_flag_if : (flags : List Bool) (n k : ℕ) (same : Bool) → n < length flags → same ≡ true → get_or (set flags n true) k false ≡ (get_or flags k false || ((n == k) && same))
set_flag_if flags n k same low e = set_flag flags n k low ∙ ap (λ (b : Bool). get_or flags k false || b) (sym (ap (λ (b : Bool). (n == k) && b) e ∙ and_true (n == k)))

pub keep_flag_if : (flags : List Bool) (n k : ℕ) (same : Bool) → same ≡ false → get_or flags k false ≡ (get_or flags k false || ((n == k) && same))
keep_flag_if flags n k same e = sym (ap (λ (b : Bool). get_or flags k false || b) (ap (λ (b : Bool). (n == k) && b) e ∙ and_false (n == k)) ∙ or_false (get_or flags k false))

-- a line that has no flag is none of those that have
pub keep_flag : (flags : List Bool) (n k : ℕ) → length flags ≤ n → k < length flags → get_or flags k false ≡ (get_or flags k false || n == k)
keep_flag flags n k high low = by_test (n == k) refl
  where
    by_test : (b : Bool) → (n == k) ≡ b → get_or flags k false ≡ (get_or flags k false || n == k)
    by_test true one = absurd (omega (arith, high, low, eqb-true n k one))
    by_test false other = sym (ap (λ (b : Bool). get_or flags k false || b) other ∙ or_false (get_or flags k false))

-- one number more, listed where it is flagged
pub flagged_more : (flags : List Bool) (n : ℕ) (before after : List LineId) → before ≡ map line_numbered (filter (λ (k : ℕ). get_or flags k false) (range_with_len 0 n))
    → after ≡ before ++ cond (get_or flags n false) (line_numbered n ∷ []) [] → after ≡ map line_numbered (filter (λ (k : ℕ). get_or flags k false) (range_with_len 0 (n + 1)))
flagged_more flags n before after was next =
    let test : ℕ → Bool = λ k. get_or flags k false in
    let done = range_with_len 0 n in
    next
    ∙ ap (λ (ls : List LineId). ls ++ cond (test n) (line_numbered n ∷ []) []) was
    ∙ ap (λ (ls : List LineId). map line_numbered (filter test done) ++ ls) (by_test (test n))
    ∙ sym (map-append line_numbered (filter test done) (cond (test n) (n ∷ []) []))
    ∙ sym (ap (map line_numbered) (ap (filter test) (range_more 0 n n (omega arith)) ∙ filter-append test done (n ∷ [])))
  where
    by_test : (b : Bool) → cond b (line_numbered n ∷ []) [] ≡ map line_numbered (cond b (n ∷ []) [])
    by_test true = refl
    by_test false = refl

-- no segment yet
pub none_flagged : (count : ℕ) (lists : List (List LineId)) (flags : List Bool) → flags ≡ replicate count false → AreFlags count (is_on (take 0 lists)) flags
none_flagged count lists flags e = record { each = ap length e ∙ length-replicate count false; of = λ n low. ap (λ (fs : List Bool). get_or fs n false) e ∙ get_or-replicate count n false false low }

-- one line more
pub line_flagged : (lines : List LineId) (i n : ℕ) (d : LineId) (old was is : Bool) → i < length lines → was ≡ (old || has_line (line_numbered n) (take i lines)) → is ≡ (was || ((get_or lines i d).0 == n))
    → is ≡ (old || has_line (line_numbered n) (take (i + 1) lines))
line_flagged lines i n d old was is low before now =
    let test : LineId → Bool = λ a. a.0 == n in
    now ∙ ap (λ (b : Bool). b || test (get_or lines i d)) before ∙ or_assoc old (list_any test (take i lines)) (test (get_or lines i d))
    ∙ ap (λ (b : Bool). old || (list_any test (take i lines) || b)) (sym (or_false (test (get_or lines i d))))
    ∙ ap (λ (b : Bool). old || b) (sym (list_any-append test (take i lines) (get_or lines i d ∷ [])) ∙ sym (ap (list_any test) (take_more lines i d low)))

-- one segment more
pub segment_flagged : (lists : List (List LineId)) (s n : ℕ) (lines : List LineId) (was is : Bool) → s < length lists → slice_get lists s ≡ Some lines → was ≡ is_on (take s lists) n → is ≡ (was || has_line (line_numbered n) lines)
    → is ≡ is_on (take (s + 1) lists) n
segment_flagged lists s n lines was is low at before now =
    now
    ∙ ap (λ (b : Bool). b || has_line (line_numbered n) lines) before
    ∙ ap (λ (b : Bool). is_on (take s lists) n || b) (sym (or_false (has_line (line_numbered n) lines)))
    ∙ sym (list_any-append (has_line (line_numbered n)) (take s lists) (lines ∷ []))
    ∙ sym (ap (list_any (has_line (line_numbered n))) (take_more lists s [] low ∙ ap (λ (ls : List LineId). take s lists ++ ls ∷ []) (get_or_from_slice_get lists s lines [] at)))

filter_same : (f g : ℕ → Bool) (a n : ℕ) → ((k : ℕ) → k < a + n → f k ≡ g k) → filter f (range_with_len a n) ≡ filter g (range_with_len a n)
filter_same f g a zero same = refl
filter_same f g a (suc n) same =
    ap (λ (b : Bool). cond b (a ∷ filter f (range_with_len (a + 1) n)) (filter f (range_with_len (a + 1) n))) (same a (omega arith))
    ∙ ap (λ (ks : List ℕ). cond (g a) (a ∷ ks) ks) (filter_same f g (a + 1) n (λ k high. same k (omega (arith, high))))

-- the lines that are flagged are those that are shown
pub flagged_are : (count : ℕ) (g : GraphParts) (flags : List Bool) → AreFlags count (is_on g.lines) flags → flagged flags ≡ lines_shown count g
flagged_are count g flags h =
    ap (λ (n : ℕ). map line_numbered (filter (λ (k : ℕ). get_or flags k false) (range_with_len 0 n))) h.each
    ∙ ap (map line_numbered) (filter_same (λ (k : ℕ). get_or flags k false) (is_on_some g) 0 count (λ k low. h.of k (omega (arith, low))))
