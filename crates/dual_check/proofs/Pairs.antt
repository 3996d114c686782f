-- The settled pairs of a segment, and its rows.
use Rattle.std.proofs.Common.{◌≡◌, ℕ, zero, suc, ◌+◌, ◌<◌, ◌≤◌, ◌==◌, ◌&&◌, Bool, true, false, cond, List, [], ◌∷◌, ◌++◌, length, map, filter, take, get_or, refl, sym, ◌∙◌, ap, subst, arith, max}
use Rattle.std.specs.Prelude.{Vec, reverse, nat_le}
use Rattle.std.specs.Global.{Global}
use Rattle.std.specs.List.{All, list_all}
use Rattle.std.proofs.lemmas.Bool.{and_parts, leb-true}
use Rattle.std.proofs.lemmas.Bool.Decides.{nat_tests}
use Rattle.std.proofs.lemmas.List.{take_more, reverse-append, get_or-map}
use Rattle.std.proofs.lemmas.List.Folds.{list_all_more}
use Rattle.std.proofs.lemmas.List.Elements.{All-head, All-tail, All-nil, All-append, All-cons, All-weaker, All-filter}
use Rattle.map_base.specs.declared.ids.SegId.{SegId}
use Rattle.map_base.specs.declared.ids.LineId.{LineId}
use Rattle.order_model.specs.declared.term.Term.{Term}
use Rattle.order_model.specs.Problems.{lines_on}
use Rattle.order_model.specs.Places.{tables_of}
use Rattle.order_model.specs.PartTerms.{no_term, numbered_from, is_of, part_numbers}
use Rattle.least_orders.specs.Rows.{is_one_of}
use Rattle.dual_bound.specs.declared.settled.SettledPair.{SettledPair}
use Rattle.dual_bound.specs.Settled.{settled_on}
use Rattle.dual_bound.specs.Accepting.{is_narrow}
use Rattle.dual_bound.proofs.Segments.{same_seg}
use Rattle.dual_shares.specs.Groups.{is_on, numbers_on}
use Rattle.dual_shares.specs.RowSteps.{AreTwoOf}
use Rattle.dual_shares.specs.SettledSets.{TellAhead}
use Rattle.dual_shares.proofs.Grouping.{items_of, lists_each}
use Rattle.dual_check.specs.Settling.{pairs_of, IsPairOn, IsPairHere}
use Rattle.dual_check.proofs.Walks.{pushed_pairs}

-- Pair by pair.

pairs_more : (settled : List SettledPair) (i : ℕ) (p : SettledPair) (s : SegId) → i < length settled → p ≡ get_or settled i p
    → settled_on (pairs_of (take (i + 1) settled)) s ≡ settled_on (p ∷ pairs_of (take i settled)) s
pairs_more settled i p s below is =
    ap (λ l. settled_on (pairs_of l) s) (take_more settled i p below ∙ ap (λ q. take i settled ++ q ∷ []) (sym is))
    ∙ ap (λ l. settled_on l s) (pushed_pairs (take i settled) p)

one_pair : (p : SettledPair) (rest : List SettledPair) (s : SegId) (b : Bool) → (p.seg.0 == s.0) ≡ b
    → settled_on (p ∷ rest) s ≡ cond b ((p.first, p.second) ∷ settled_on rest s) (settled_on rest s)
one_pair p rest s true e = ap (λ c. map (λ (r : SettledPair). (r.first, r.second)) (cond c (p ∷ filter (λ (r : SettledPair). r.seg.0 == s.0) rest) (filter (λ (r : SettledPair). r.seg.0 == s.0) rest))) e
one_pair p rest s false e = ap (λ c. map (λ (r : SettledPair). (r.first, r.second)) (cond c (p ∷ filter (λ (r : SettledPair). r.seg.0 == s.0) rest) (filter (λ (r : SettledPair). r.seg.0 == s.0) rest))) e

pub ahead_more : (settled : List SettledPair) (i : ℕ) (p : SettledPair) (s : SegId) (lines : List LineId) (ahead : List ℕ) → i < length settled → p ≡ get_or settled i p → (p.seg.0 == s.0) ≡ true
    → TellAhead ((p.first, p.second) ∷ settled_on (pairs_of (take i settled)) s) lines ahead → TellAhead (settled_on (pairs_of (take (i + 1) settled)) s) lines ahead
ahead_more settled i p s lines ahead below is here tell =
    subst (λ (l : List (LineId × LineId)). TellAhead l lines ahead) (sym (pairs_more settled i p s below is ∙ one_pair p (pairs_of (take i settled)) s true here)) tell

pub ahead_same : (settled : List SettledPair) (i : ℕ) (p : SettledPair) (s : SegId) (lines : List LineId) (ahead : List ℕ) → i < length settled → p ≡ get_or settled i p → (p.seg.0 == s.0) ≡ false
    → TellAhead (settled_on (pairs_of (take i settled)) s) lines ahead → TellAhead (settled_on (pairs_of (take (i + 1) settled)) s) lines ahead
ahead_same settled i p s lines ahead below is apart tell =
    subst (λ (l : List (LineId × LineId)). TellAhead l lines ahead) (sym (pairs_more settled i p s below is ∙ one_pair p (pairs_of (take i settled)) s false apart)) tell

-- Pairs are of lines of their segments.

pub pairs_here : (segs : List (List LineId)) (s : SegId) (settled : List SettledPair) → All (IsPairOn segs) settled → All (IsPairHere s (lines_on segs s)) settled
pairs_here segs s settled all =
    All-weaker (IsPairOn segs) (IsPairHere s (lines_on segs s)) (λ p on here. subst (λ (u : SegId). AreTwoOf (lines_on segs u) p.first p.second) (same_seg p.seg s here) on.two) settled all

reversed : (P : SettledPair → Type 0) (xs : List SettledPair) → All P xs → All P (reverse xs)
reversed P [] all = All-nil P
reversed P (x ∷ xs) all = subst (All P) (sym (reverse-append (x ∷ []) xs)) (All-append P (reverse xs) (x ∷ []) (reversed P xs (All-tail P x xs all)) (All-cons P x [] (All-head P x xs all) (All-nil P)))

both : (b c : Bool) → b ≡ true → c ≡ true → (b && c) ≡ true
both b c e f = ap (λ t. t && c) e ∙ f

each_known : (lines : List LineId) (s : SegId) (ps : List SettledPair) → All (IsPairHere s lines) ps → list_all (λ (p : LineId × LineId). is_one_of lines p.0 && is_one_of lines p.1) (settled_on ps s) ≡ true
each_known lines s [] here = refl
each_known lines s (p ∷ ps) here = by_test (p.seg.0 == s.0) refl (each_known lines s ps (All-tail (IsPairHere s lines) p ps here))
  where
    by_test : (b : Bool) → (p.seg.0 == s.0) ≡ b → list_all (λ (p : LineId × LineId). is_one_of lines p.0 && is_one_of lines p.1) (settled_on ps s) ≡ true
        → list_all (λ (p : LineId × LineId). is_one_of lines p.0 && is_one_of lines p.1) (settled_on (p ∷ ps) s) ≡ true
    by_test true e rest =
        let two = All-head (IsPairHere s lines) p ps here e in
        ap (list_all (λ (p : LineId × LineId). is_one_of lines p.0 && is_one_of lines p.1)) (one_pair p ps s true e)
        ∙ both (is_one_of lines p.first && is_one_of lines p.second) (list_all (λ (p : LineId × LineId). is_one_of lines p.0 && is_one_of lines p.1) (settled_on ps s))
        (both (is_one_of lines p.first) (is_one_of lines p.second) two.first_on two.second_on) rest
    by_test false e rest = ap (list_all (λ (p : LineId × LineId). is_one_of lines p.0 && is_one_of lines p.1)) (one_pair p ps s false e) ∙ rest

pub pairs_known : (segs : List (List LineId)) (s : SegId) (settled : List SettledPair) → All (IsPairOn segs) settled
    → list_all (λ (p : LineId × LineId). is_one_of (lines_on segs s) p.0 && is_one_of (lines_on segs s) p.1) (settled_on (pairs_of settled) s) ≡ true
pairs_known segs s settled all = each_known (lines_on segs s) s (pairs_of settled) (reversed (IsPairHere s (lines_on segs s)) settled (pairs_here segs s settled all))

-- No segment of a narrow part has too many lines.

pub narrow_few : (segs : List (List LineId)) (part : List SegId) (k : ℕ) (d : SegId) → is_narrow segs part ≡ true → k < length part → length (lines_on segs (get_or part k d)) ≤ 16
narrow_few segs [] k d h below = absurd (omega (arith, below))
narrow_few segs (s ∷ part) zero d h below = leb-true (length (lines_on segs s)) 16 (and_parts (nat_le (length (lines_on segs s)) 16) (is_narrow segs part) h).0
narrow_few segs (s ∷ part) (suc k) d h below = narrow_few segs part k d (and_parts (nat_le (length (lines_on segs s)) 16) (is_narrow segs part) h).1 (omega (arith, below))

-- one segment more is measured
pub width_more : (segs : List (List LineId)) (part : List SegId) (i : ℕ) (d : SegId) (width more : ℕ) → i < length part → more ≡ max width (length (lines_on segs (get_or part i d)))
    → All (λ (s : SegId). length (lines_on segs s) ≤ width) (take i part) → All (λ (s : SegId). length (lines_on segs s) ≤ more) (take (i + 1) part)
width_more segs part i d width more below is most =
    subst (All (λ (s : SegId). length (lines_on segs s) ≤ more)) (sym (take_more part i d below))
    (All-append (λ (s : SegId). length (lines_on segs s) ≤ more) (take i part) (get_or part i d ∷ [])
    (All-weaker (λ (s : SegId). length (lines_on segs s) ≤ width) (λ (s : SegId). length (lines_on segs s) ≤ more) (λ s h. omega (arith, h, is)) (take i part) most)
    (All-cons (λ (s : SegId). length (lines_on segs s) ≤ more) (get_or part i d) [] (omega (arith, is)) (All-nil (λ (s : SegId). length (lines_on segs s) ≤ more))))

pub narrow_more : (segs : List (List LineId)) (part : List SegId) (i : ℕ) (d : SegId) (width more : ℕ) → i < length part → more ≡ max width (length (lines_on segs (get_or part i d)))
    → nat_le width 16 ≡ is_narrow segs (take i part) → nat_le more 16 ≡ is_narrow segs (take (i + 1) part)
narrow_more segs part i d width more below is narrow =
    ap (λ m. nat_le m 16) is
    ∙ (of_both width (length (lines_on segs (get_or part i d)))
    ∙ (ap (λ b. b && nat_le (length (lines_on segs (get_or part i d))) 16) narrow ∙ sym (list_all_more (λ (s : SegId). nat_le (length (lines_on segs s)) 16) part i d below)))
  where
    of_both : (a b : ℕ) → nat_le (max a b) 16 ≡ (nat_le a 16 && nat_le b 16)
    of_both a b = grind (arith, nat_tests)

-- The numbers of the terms on a segment.

pub group_here : (terms : List Term) (numbers : List ℕ) (part : List SegId) (groups : List (Vec ℕ Global)) (k : ℕ) (group : Vec ℕ Global) (d : SegId)
    → tables_of groups ≡ map (numbers_on terms numbers) part → k < length part → group ≡ get_or groups k group → group.items ≡ numbers_on terms numbers (get_or part k d)
group_here terms numbers part groups k group d is below here =
    ap items_of here
    ∙ (sym (get_or-map items_of groups k group [] (let each = lists_each terms numbers part groups is in omega (arith, below, each)))
    ∙ (ap (λ lists. get_or lists k []) is ∙ get_or-map (numbers_on terms numbers) part k d [] below))

pub numbers_known : (terms : List Term) (numbers : List ℕ) (s : SegId) (n : ℕ) → All (λ m. m < n) numbers → All (λ m. m < n) (numbers_on terms numbers s)
numbers_known terms numbers s n all = All-filter (λ m. is_on s (get_or terms m no_term)) (λ m. m < n) numbers all

pub numbers_few : (terms : List Term) (s : SegId) (numbers : List ℕ) → length (numbers_on terms numbers s) ≤ length numbers
numbers_few terms s [] = omega arith
numbers_few terms s (n ∷ numbers) = by_test (is_on s (get_or terms n no_term)) (numbers_few terms s numbers)
  where
    by_test : (b : Bool) → length (numbers_on terms numbers s) ≤ length numbers → length (cond b (n ∷ numbers_on terms numbers s) (numbers_on terms numbers s)) ≤ length (n ∷ numbers)
    by_test true h = omega (arith, h)
    by_test false h = omega (arith, h)

kept_few : (p : ℕ × Term → Bool) (k : ℕ) (terms : List Term) → length (map (λ (q : ℕ × Term). q.0) (filter p (numbered_from k terms))) ≤ length terms
kept_few p k [] = omega arith
kept_few p k (t ∷ terms) = by_test (p (k, t)) (kept_few p (k + 1) terms)
  where
    by_test : (b : Bool) → length (map (λ (q : ℕ × Term). q.0) (filter p (numbered_from (k + 1) terms))) ≤ length terms
        → length (map (λ (q : ℕ × Term). q.0) (cond b ((k, t) ∷ filter p (numbered_from (k + 1) terms)) (filter p (numbered_from (k + 1) terms)))) ≤ length (t ∷ terms)
    by_test true h = omega (arith, h)
    by_test false h = omega (arith, h)

-- no more than the problem has terms
pub part_numbers_few : (part : List SegId) (terms : List Term) → length (part_numbers terms part) ≤ length terms
part_numbers_few part terms = kept_few (λ (q : ℕ × Term). is_of part q.1) 0 terms
