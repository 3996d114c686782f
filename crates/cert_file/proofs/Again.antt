-- What is written of a certificate in range is read again.
use Rattle.std.proofs.Common.{◌≡◌, ℕ, suc, ◌+◌, ◌<◌, ◌≤◌, ℤ, pos, negsuc, Bool, true, false, cond, not, ◌&&◌, eqb, ltb, List, [], ◌∷◌, ◌++◌, codes, length, take, drop, replicate, Option, Some, None, option_map, unsigned_abs, refl, ap, subst, sym, ◌∙◌, lt-ltb, arith}
use Rattle.std.specs.Option.{option_and_then}
use Rattle.std.specs.List.{AllByRecursion, list_all, position_or_len}
use Rattle.std.specs.Char.{is_ascii_digit}
use Rattle.std.specs.Str.{bytes_eq, all_ascii_digits}
use Rattle.std.specs.Fmt.{decimal, signed_decimal}
use Rattle.std.proofs.lemmas.Bool.{and_parts, eq-eqb, eqb-true}
use Rattle.std.proofs.lemmas.Fmt.{decimal_nonempty}
use Rattle.std.proofs.lemmas.List.{take_at, drop_at}
use Rattle.std.proofs.lemmas.Slice.Eq.{bytes_eq-Decides}
use Rattle.map_base.specs.declared.ids.LineId.{LineId}
use Rattle.octi_grid.specs.declared.dir.Dir.{Dir}
use Rattle.octi_grid.specs.declared.dir.Dir.TheVariants as dir
use Rattle.octi_grid.specs.declared.point.GridPoint.{GridPoint}
use Rattle.octi_grid.specs.declared.walk.Run.{Run}
use Rattle.octi_grid.specs.Ways.{number_of, is_within, points_from, IsWithin}
use Rattle.octi_grid.specs.Runs.{are_runs, turns_next, steps_of, IsShort}
use Rattle.octi_grid.specs.Walks.{PlainWalk, IsWalk, walk_of as grid_walk, fits, walk_by}
use Rattle.octi_grid.proofs.WayLemmas.{first_of-points, test-from_All}
use Rattle.octi_grid.proofs.RunLemmas.{same_direction, first_count, rest_are_runs, runs-some, AreShort-from_within}
use Rattle.decimal_text.specs.Numbers.{natural_within, from_to, number_of as number_in}
use Rattle.decimal_text.specs.Lines.{front, numbers_text}
use Rattle.decimal_text.proofs.NumberLemmas.{IsNumber, up_to_within, number_again, digits_written}
use Rattle.decimal_text.proofs.RangeLemmas.{from_to_again}
use Rattle.decimal_text.proofs.LineLemmas.{lacks-append, IsWord, AreWords, AreNumbers, number_is_word, paired, front_again, numbered_again}
use Rattle.cert_file.specs.declared.counts.Counts.{Counts}
use Rattle.cert_file.specs.RunWords.{with_step, runs_of, dir_text, run_word, run_words, dir_of, most_steps, run_with, name_end, run_of, run_before, runs_in}
use Rattle.cert_file.specs.Forms.{most_id, most_nodes, most_segs, most_lines, most_importance, most_cost, line_id, spoken, spoken_front, version_of, counts_with, counts_of, pair_with, pair_of, pairs_from, importance_of, walk_with, walk_of, walk_in, lines_in, distinct, order_in, order_of, cost_of}
use Rattle.cert_file.specs.Text.{pair_numbers, line_numbers, walk_words, walk_text}
use Rattle.cert_file.specs.Ranges.{ArePairs, IsOrder}
use Rattle.cert_file.proofs.FormLemmas.{some}

-- ---- lines of a word and numbers

same_word : (word : List ℕ) → bytes_eq word word ≡ true
same_word word = (bytes_eq-Decides word word).1 refl

pub spoken_again : {A : Type 0} (word : List ℕ) (form : List ℤ → Option A) (zs : List ℤ) (a : A) (rest : List ℕ) → IsWord word → AreNumbers zs → form zs ≡ Some a
    → spoken_front word form ((word ++ numbers_text zs) ++ rest) ≡ Some (a, rest)
unfolding spoken_front
spoken_again word form zs a rest is few says =
    ap (option_and_then (λ x. option_map (paired x.1) (spoken word form x.0))) (numbered_again word zs rest is few)
    ∙ ap (λ (b : Bool). option_map (paired rest) (cond b (form zs) None)) (same_word word)
    ∙ ap (option_map (paired rest)) says

pub version_again : (v : ℕ) → 1 ≤ v → v ≤ 2 → version_of (pos v ∷ []) ≡ Some v
version_again v low high = from_to_again 1 2 v low high

pub counts_again : (n : Counts) → n.nodes ≤ most_nodes → n.segs ≤ most_segs → n.lines ≤ most_lines → counts_of (pos n.nodes ∷ pos n.segs ∷ pos n.lines ∷ []) ≡ Some n
counts_again n a b c =
    ap (λ (o : Option ℕ). counts_with o (natural_within most_segs (pos n.segs)) (natural_within most_lines (pos n.lines))) (up_to_within most_nodes n.nodes a)
    ∙ ap (λ (o : Option ℕ). counts_with (Some n.nodes) o (natural_within most_lines (pos n.lines))) (up_to_within most_segs n.segs b)
    ∙ ap (counts_with (Some n.nodes) (Some n.segs)) (up_to_within most_lines n.lines c)

pairs_again : (least : ℕ) (ps : List (LineId × ℕ)) → ArePairs least ps → pairs_from least (pair_numbers ps) ≡ Some ps
pairs_again least [] are = refl
pairs_again least (p ∷ rest) are =
    let first : pair_of least (pos p.0.0) (pos p.1) ≡ Some p =
    ap (λ (o : Option ℕ). pair_with o (from_to 2 most_importance (pos p.1))) (from_to_again least most_id p.0.0 are.0 are.1) ∙ ap (pair_with (Some p.0.0)) (from_to_again 2 most_importance p.1 are.2 are.3) in
    ap (option_and_then (λ (q : LineId × ℕ). option_map (λ more. q ∷ more) (pairs_from (suc q.0.0) (pair_numbers rest)))) first
    ∙ ap (option_map (λ (more : List (LineId × ℕ)). p ∷ more)) (pairs_again (suc p.0.0) rest are.4)

pub importance_again : (p : LineId × ℕ) (ps : List (LineId × ℕ)) → ArePairs 0 (p ∷ ps) → importance_of (pair_numbers (p ∷ ps)) ≡ Some (p ∷ ps)
importance_again p ps are = pairs_again 0 (p ∷ ps) are

lines_again : (ls : List LineId) → AllByRecursion (λ (l : LineId). l.0 ≤ most_id) ls → lines_in (line_numbers ls) ≡ Some ls
lines_again [] few = refl
lines_again (l ∷ rest) few =
    ap (option_and_then (λ (n : ℕ). option_map (λ more. line_id n ∷ more) (lines_in (line_numbers rest)))) (up_to_within most_id l.0 few.0)
    ∙ ap (option_map (λ (more : List LineId). l ∷ more)) (lines_again rest few.1)

pub order_again : (s : ℕ) (ls : List LineId) → IsOrder ls → order_of s (pos s ∷ line_numbers ls) ≡ Some ls
order_again s [] is = absurd (omega (arith, is.some))
order_again s (l ∷ ls) is = ap (λ (b : Bool). cond b (order_in (line_numbers (l ∷ ls))) None) (eq-eqb s s refl)
    ∙ ap (option_and_then distinct) (lines_again (l ∷ ls) is.range)
    ∙ ap (λ (b : Bool). cond b (some (l ∷ ls)) None) is.distinct

pub cost_again : (k : ℕ) → k ≤ most_cost → cost_of (pos k ∷ []) ≡ Some k
cost_again k few = up_to_within most_cost k few

-- ---- walks

dir_again : (d : Dir) → dir_of (dir_text d) ≡ Some d
dir_again dir.N = refl
dir_again d = refl

-- a name is cut off before a digit
digit_first : (ds : List ℕ) → all_ascii_digits ds ≡ true → 0 < length ds → position_or_len is_ascii_digit ds ≡ 0
digit_first [] digits some = absurd (omega arith)
digit_first (c ∷ cs) digits some = ap (λ (b : Bool). cond (not b) (1 + position_or_len is_ascii_digit cs) 0) (and_parts (is_ascii_digit c) (all_ascii_digits cs) digits).0

name_cut : (d : Dir) (ds : List ℕ) → position_or_len is_ascii_digit ds ≡ 0 → name_end (dir_text d ++ ds) ≡ length (dir_text d)
name_cut dir.NE ds e = ap (λ (n : ℕ). 1 + (1 + n)) e
name_cut dir.SE ds e = ap (λ (n : ℕ). 1 + (1 + n)) e
name_cut dir.SW ds e = ap (λ (n : ℕ). 1 + (1 + n)) e
name_cut dir.NW ds e = ap (λ (n : ℕ). 1 + (1 + n)) e
name_cut d ds e = ap (λ (n : ℕ). 1 + n) e

run_again : (r : Run) → 1 ≤ r.count → r.count ≤ most_steps → run_of (run_word r) ≡ Some r
run_again r low high =
    let few : r.count ≤ 1000000000000000 = omega (arith, high) in
    let digits = digits_written r.count few in
    let some_digit : 0 < length (decimal r.count) = decimal_nonempty r.count (omega arith) in
    let cut = sym (name_cut r.dir (decimal r.count) (digit_first (decimal r.count) digits some_digit)) in
    let name : take (name_end (run_word r)) (run_word r) ≡ dir_text r.dir = take_at (dir_text r.dir) (decimal r.count) (name_end (run_word r)) cut in
    let number : drop (name_end (run_word r)) (run_word r) ≡ decimal r.count = drop_at (dir_text r.dir) (decimal r.count) (name_end (run_word r)) cut in
    ap (λ (t : List ℕ). run_with (dir_of t) (option_and_then (from_to 1 most_steps) (number_in (drop (name_end (run_word r)) (run_word r))))) name
    ∙ ap (λ (o : Option Dir). run_with o (option_and_then (from_to 1 most_steps) (number_in (drop (name_end (run_word r)) (run_word r))))) (dir_again r.dir)
    ∙ ap (λ (t : List ℕ). run_with (Some r.dir) (option_and_then (from_to 1 most_steps) (number_in t))) number
    ∙ ap (λ (o : Option ℤ). run_with (Some r.dir) (option_and_then (from_to 1 most_steps) o)) (number_again (pos r.count) few)
    ∙ ap (run_with (Some r.dir)) (from_to_again 1 most_steps r.count low high)

-- runs with steps, and not too many
abbrev AreGood : List Run → Type 0
AreGood rs = AllByRecursion (λ (r : Run). (1 ≤ r.count) × (r.count ≤ most_steps)) rs

runs_read_again : (rs : List Run) → AreGood rs → runs_in (run_words rs) ≡ Some rs
runs_read_again [] good = refl
runs_read_again (r ∷ rest) good =
    ap (λ (o : Option Run). run_before o (runs_in (run_words rest))) (run_again r good.0.0 good.0.1) ∙ ap (run_before (Some r)) (runs_read_again rest good.1)

-- ---- steps as runs

-- a step before runs makes runs
with_step_runs : (d : Dir) (rs : List Run) → are_runs rs ≡ true → are_runs (with_step d rs) ≡ true
with_step_runs d [] e = refl
with_step_runs d (r ∷ rs) e = by (eqb (number_of d) (number_of r.dir)) refl
  where
    by : (b : Bool) → eqb (number_of d) (number_of r.dir) ≡ b → are_runs (cond b (record { dir = r.dir; count = suc r.count } ∷ rs) (record { dir = d; count = 1 } ∷ r ∷ rs)) ≡ true
    by true same =
        let outer = and_parts (ltb 0 r.count && turns_next r.dir rs) (are_runs rs) e in
        let inner = and_parts (ltb 0 r.count) (turns_next r.dir rs) outer.0 in
        ap (λ (b : Bool). (ltb 0 (suc r.count) && b) && are_runs rs) inner.1 ∙ ap (λ (b : Bool). (b && true) && are_runs rs) (lt-ltb 0 (suc r.count) (omega arith)) ∙ outer.1
    by false apart = ap (λ (b : Bool). (true && b) && are_runs (r ∷ rs)) (ap not apart) ∙ e

pub runs_of_runs : (ds : List Dir) → are_runs (runs_of ds) ≡ true
runs_of_runs [] = refl
runs_of_runs (d ∷ ds) = with_step_runs d (runs_of ds) (runs_of_runs ds)

with_step_steps : (d : Dir) (rs : List Run) → steps_of (with_step d rs) ≡ d ∷ steps_of rs
with_step_steps d [] = refl
with_step_steps d (r ∷ rs) = by (eqb (number_of d) (number_of r.dir)) refl
  where
    by : (b : Bool) → eqb (number_of d) (number_of r.dir) ≡ b → steps_of (cond b (record { dir = r.dir; count = suc r.count } ∷ rs) (record { dir = d; count = 1 } ∷ r ∷ rs)) ≡ d ∷ steps_of (r ∷ rs)
    by true same = ap (λ (x : Dir). x ∷ (replicate r.count r.dir ++ steps_of rs)) (sym (same_direction d r.dir (eqb-true (number_of d) (number_of r.dir) same)))
    by false apart = refl

pub steps_again : (ds : List Dir) → steps_of (runs_of ds) ≡ ds
steps_again [] = refl
steps_again (d ∷ ds) = with_step_steps d (runs_of ds) ∙ ap (λ (es : List Dir). d ∷ es) (steps_again ds)

good_runs : (rs : List Run) → are_runs rs ≡ true → AllByRecursion IsShort rs → AreGood rs
good_runs [] e short = tt
good_runs (r ∷ rs) e short = ((first_count r rs e, short.0), good_runs rs (rest_are_runs r rs e) short.1)

small : (z : ℤ) → unsigned_abs z ≤ 10000 → IsNumber z
small (pos n) few = omega (arith, few)
small (negsuc n) few = omega (arith, few)

fits_again : (p : GridPoint) (ds : List Dir) → IsWalk (record { start = p; steps = ds }) → walk_by p (runs_of ds) ≡ Some (record { start = p; steps = ds })
fits_again p ds walk =
    let steps = steps_again ds in
    let some_runs : 0 < length (runs_of ds) = runs-some (runs_of ds) (subst (λ (es : List Dir). 0 < length es) (sym steps) walk.some) in
    let within : list_all is_within (points_from p (steps_of (runs_of ds))) ≡ true = ap (λ (es : List Dir). list_all is_within (points_from p es)) steps ∙ test-from_All (points_from p ds) walk.within in
    let fit : fits p (runs_of ds) ≡ true =
    ap (λ (b : Bool). (b && are_runs (runs_of ds)) && list_all is_within (points_from p (steps_of (runs_of ds)))) (lt-ltb 0 (length (runs_of ds)) some_runs)
    ∙ ap (λ (b : Bool). (true && b) && list_all is_within (points_from p (steps_of (runs_of ds)))) (runs_of_runs ds) ∙ within in
    ap (λ (b : Bool). cond b (some (grid_walk p (runs_of ds))) None) fit ∙ ap (λ (es : List Dir). some (record { start = p; steps = es })) steps

walk_of_again : (s : ℕ) (w : PlainWalk) → s ≤ most_segs → IsWalk w → walk_of s (walk_words s w) ≡ Some w
walk_of_again s w few walk =
    let at = first_of-points IsWithin w.start w.steps walk.within in
    let runs = runs_of w.steps in
    let short = AreShort-from_within w.start runs (subst (λ (es : List Dir). AllByRecursion IsWithin (points_from w.start es)) (sym (steps_again w.steps)) walk.within) in
    ap (λ (o : Option ℤ). walk_with s o (number_in (signed_decimal w.start.x)) (number_in (signed_decimal w.start.y)) (runs_in (run_words runs))) (number_again (pos s) (omega (arith, few)))
    ∙ ap (λ (o : Option ℤ). walk_with s (Some (pos s)) o (number_in (signed_decimal w.start.y)) (runs_in (run_words runs))) (number_again w.start.x (small w.start.x at.across))
    ∙ ap (λ (o : Option ℤ). walk_with s (Some (pos s)) (Some w.start.x) o (runs_in (run_words runs))) (number_again w.start.y (small w.start.y at.along))
    ∙ ap (walk_with s (Some (pos s)) (Some w.start.x) (Some w.start.y)) (runs_read_again runs (good_runs runs (runs_of_runs w.steps) short))
    ∙ ap (λ (b : Bool). cond b (walk_by w.start runs) None) (eq-eqb s s refl) ∙ fits_again w.start w.steps walk

dir_is_word : (d : Dir) → IsWord (dir_text d)
dir_is_word dir.NE = record { no_space = (refl, (refl, tt)); no_end = (refl, (refl, tt)) }
dir_is_word dir.SE = record { no_space = (refl, (refl, tt)); no_end = (refl, (refl, tt)) }
dir_is_word dir.SW = record { no_space = (refl, (refl, tt)); no_end = (refl, (refl, tt)) }
dir_is_word dir.NW = record { no_space = (refl, (refl, tt)); no_end = (refl, (refl, tt)) }
dir_is_word d = record { no_space = (refl, tt); no_end = (refl, tt) }

joined_word : (a b : List ℕ) → IsWord a → IsWord b → IsWord (a ++ b)
joined_word a b x y = record { no_space = lacks-append _ a b x.no_space y.no_space; no_end = lacks-append _ a b x.no_end y.no_end }

runs_are_words : (rs : List Run) → AreGood rs → AreWords (run_words rs)
runs_are_words [] good = tt
runs_are_words (r ∷ rest) good = (joined_word (dir_text r.dir) (decimal r.count) (dir_is_word r.dir) (number_is_word (pos r.count) (omega (arith, good.0.1))), runs_are_words rest good.1)

pub walk_again : (s : ℕ) (w : PlainWalk) (rest : List ℕ) → s ≤ most_segs → IsWalk w → front (walk_in s) (walk_text s w ++ rest) ≡ Some (w, rest)
walk_again s w rest few walk =
    let at = first_of-points IsWithin w.start w.steps walk.within in
    let runs = runs_of w.steps in
    let short = AreShort-from_within w.start runs (subst (λ (es : List Dir). AllByRecursion IsWithin (points_from w.start es)) (sym (steps_again w.steps)) walk.within) in
    let says : walk_in s (codes "walk" ∷ walk_words s w) ≡ Some w = ap (λ (b : Bool). cond b (walk_of s (walk_words s w)) None) (same_word (codes "walk")) ∙ walk_of_again s w few walk in
    front_again (walk_in s) (codes "walk") (walk_words s w) w rest says (record { no_space = (refl, (refl, (refl, (refl, tt)))); no_end = (refl, (refl, (refl, (refl, tt)))) })
    (number_is_word (pos s) (omega (arith, few)), (number_is_word w.start.x (small w.start.x at.across), (number_is_word w.start.y (small w.start.y at.along), runs_are_words runs (good_runs runs (runs_of_runs w.steps) short))))
