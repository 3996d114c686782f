-- A consistent graph passes the tests of a file's references, and is within its limits.
use Rattle.std.proofs.Common.{◌≡◌, refl, sym, ap, ap₂, subst, ◌∙◌, ℕ, zero, suc, ◌+◌, ◌<◌, ◌≤◌, max, Bool, true, false, ◌&&◌, ◌||◌, ◌==◌, List, [], ◌∷◌, ◌++◌, length, get_or, fold, arith, length-append, inl, inr, nat_lt}
use Rattle.std.specs.Prelude.{All, Contains, if◌then◌else◌}
use Rattle.std.specs.List.{list_any, list_all, AllByRecursion as ByRecursion}
use Rattle.std.proofs.lemmas.Bool.{lt-ltb, eq-eqb, eqb-true, false≢true}
use Rattle.std.proofs.lemmas.List.Elements.{recursion_from_All, All-from_recursion, Contains-get_or}
use Rattle.std.proofs.lemmas.List.Folds.{list_any-from_Any, list_any-append}
use Rattle.std.proofs.lemmas.List.Sums.{list_all-from_AllPass}
use Rattle.std.proofs.lemmas.List.Sorted.{length_permutation, Contains-permutation}
use Rattle.map_base.specs.declared.ids.NodeId.{NodeId}
use Rattle.map_base.specs.declared.ids.SegId.{SegId}
use Rattle.map_base.specs.declared.ids.LineId.{LineId}
use Rattle.graph_core.specs.declared.parts.GraphParts.{GraphParts}
use Rattle.graph_core.specs.declared.parts.Join.{Join}
use Rattle.graph_core.specs.Round.{segments_at}
use Rattle.graph_core.specs.Consistent.{IsConsistent, AreRising, IsBefore, AreSorted, IsJoin, IsRound, lines_at}
use Rattle.graph_json.specs.Limits.{is_line, with_line, with_lines, lines_on}
use Rattle.graph_json.specs.References.{has_seg, has_line, rises_from, rises, is_below, is_before, is_sound_round, is_sound_join, node_holds, segment_holds}
use Rattle.graph_json.specs.Written.{after_lines, lines_listed}

-- ---- tests

found : {X : Type 0} (same : X → X → Bool) → ((a : X) → same a a ≡ true) → (xs : List X) (x : X) → Contains xs x → list_any (λ y. same y x) xs ≡ true
found same itself xs x (k, within, is) =
    list_any-from_Any (λ y. same y x) xs (k, x, within, is, itself x)

seg_found : (round : List SegId) (s : SegId) → Contains round s → has_seg round s ≡ true
seg_found = found (λ (a b : SegId). a.0 == b.0) (λ a. eq-eqb a.0 a.0 refl)

line_found : (lines : List LineId) (l : LineId) → Contains lines l → has_line lines l ≡ true
line_found = found (λ (a b : LineId). a.0 == b.0) (λ a. eq-eqb a.0 a.0 refl)

rises_back_from : (a : LineId) (rest : List LineId) → AreRising (a ∷ rest) → rises_from is_below a rest ≡ true
rises_back_from a [] h = refl
rises_back_from a (b ∷ rest) h = ap₂ (λ x y. x && y) (lt-ltb a.0 b.0 h.0) (rises_back_from b rest h.1)

rises_back : (lines : List LineId) → AreRising lines → rises is_below lines ≡ true
rises_back [] h = refl
rises_back (a ∷ rest) h = rises_back_from a rest h

before_back : (a b : Join) → IsBefore a b → is_before a b ≡ true
before_back a b (inl e) =
    let other : (a.e.0 == b.e.0) ≡ false = grind arith in
    ap (λ (x : Bool). if x then (if a.f.0 == b.f.0 then nat_lt a.line.0 b.line.0 else nat_lt a.f.0 b.f.0) else nat_lt a.e.0 b.e.0) other ∙ lt-ltb a.e.0 b.e.0 e
before_back a b (inr (e, inl f)) =
    let other : (a.f.0 == b.f.0) ≡ false = grind arith in
    ap₂ (λ (x y : Bool). if x then (if y then nat_lt a.line.0 b.line.0 else nat_lt a.f.0 b.f.0) else nat_lt a.e.0 b.e.0) (eq-eqb a.e.0 b.e.0 e) other ∙ lt-ltb a.f.0 b.f.0 f
before_back a b (inr (e, inr (f, l))) =
    ap₂ (λ (x y : Bool). if x then (if y then nat_lt a.line.0 b.line.0 else nat_lt a.f.0 b.f.0) else nat_lt a.e.0 b.e.0) (eq-eqb a.e.0 b.e.0 e) (eq-eqb a.f.0 b.f.0 f) ∙ lt-ltb a.line.0 b.line.0 l

sorted_back_from : (a : Join) (rest : List Join) → AreSorted (a ∷ rest) → rises_from is_before a rest ≡ true
sorted_back_from a [] h = refl
sorted_back_from a (b ∷ rest) h = ap₂ (λ x y. x && y) (before_back a b h.0) (sorted_back_from b rest h.1)

sorted_back : (joins : List Join) → AreSorted joins → rises is_before joins ≡ true
sorted_back [] h = refl
sorted_back (a ∷ rest) h = sorted_back_from a rest h

five : (a b c d e : Bool) → a ≡ true → b ≡ true → c ≡ true → d ≡ true → e ≡ true → (a && (b && (c && (d && e)))) ≡ true
five a b c d e p q r s t = cc

two_and_three : (a b c d e : Bool) → a ≡ true → b ≡ true → c ≡ true → d ≡ true → e ≡ true → ((a && b) && (c && (d && e))) ≡ true
two_and_three a b c d e p q r s t = cc

join_passes : (lines : List (List LineId)) (round : List SegId) (j : Join) → IsJoin lines round j → is_sound_join lines round j ≡ true
join_passes lines round j is =
    five _ _ _ _ _ (lt-ltb j.e.0 j.f.0 is.order) (seg_found round j.e is.lesser) (seg_found round j.f is.greater) (line_found (lines_at lines j.e) j.line is.on_lesser) (line_found (lines_at lines j.f) j.line is.on_greater)

round_passes : (ends : List (NodeId × NodeId)) (n : ℕ) (round : List SegId) → IsRound ends n round → is_sound_round ends n round ≡ true
round_passes ends n round (some, permuted) =
    let count : length round ≡ length (segments_at n ends) = length_permutation (segments_at n ends) round permuted in
    let there : list_all (has_seg round) (segments_at n ends) ≡ true = list_all-from_AllPass (has_seg round) (segments_at n ends) (λ k d h.
    seg_found round _ (Contains-permutation (segments_at n ends) round _ permuted (Contains-get_or (segments_at n ends) k d h))) in
    ap₂ (λ a b. a && (b && list_all (has_seg round) (segments_at n ends))) (lt-ltb 0 (length round) some) (eq-eqb (length round) (length (segments_at n ends)) count) ∙ there

-- ---- the numbers of lines

at_least : (most : ℕ) (lines : List LineId) → most ≤ after_lines most lines
at_least most [] = omega arith
at_least most (l ∷ lines) = omega (arith, at_least (max most (l.0 + 1)) lines)

at_least_all : (most : ℕ) (segments : List (List LineId)) → most ≤ fold after_lines most segments
at_least_all most [] = omega arith
at_least_all most (lines ∷ segments) = omega (arith, at_least most lines, at_least_all (after_lines most lines) segments)

counted : (most all : ℕ) (lines : List LineId) → after_lines most lines ≤ all → ByRecursion (λ (l : LineId). l.0 < all) lines
counted most all [] h = tt
counted most all (l ∷ lines) h = (omega (arith, at_least (max most (l.0 + 1)) lines), counted (max most (l.0 + 1)) all lines h)

counted_all : (most all : ℕ) (segments : List (List LineId)) → fold after_lines most segments ≤ all → ByRecursion (ByRecursion (λ (l : LineId). l.0 < all)) segments
counted_all most all [] h = tt
counted_all most all (lines ∷ segments) h =
    (counted most all lines (omega (arith, at_least_all (after_lines most lines) segments)), counted_all (after_lines most lines) all segments h)

-- each line on a segment is listed
pub each_listed : (segments : List (List LineId)) → ByRecursion (ByRecursion (λ (l : LineId). l.0 < lines_listed segments)) segments
each_listed segments = counted_all 0 (lines_listed segments) segments (omega arith)

-- ---- the graph

-- All of lists at a number, where nothing holds of an empty one
pub at_number : {X : Type 0} (P : List X → Type 0) → P [] → (xs : List (List X)) → All P xs → (n : ℕ) → P (get_or xs n [])
at_number P none [] h n = none
at_number P none (x ∷ xs) h zero = h 0 [] (omega arith)
at_number P none (x ∷ xs) h (suc n) = at_number P none xs (λ k d i. h (suc k) d (omega arith)) n

module _ (g : GraphParts) (fit : IsConsistent g) where
  pub nodes_pass : (n : ℕ) → n < length g.kinds → node_holds g n ≡ true
  nodes_pass n h =
      let in_rounds : n < length g.rounds = omega (arith, fit.round_each) in
      let in_joins : n < length g.joins = omega (arith, fit.joins_each) in
      let joins = get_or g.joins n [] in
      let sound : list_all (is_sound_join g.lines (get_or g.rounds n [])) joins ≡ true = list_all-from_AllPass _ joins (λ k d i. join_passes g.lines (get_or g.rounds n []) _ (fit.joins n in_joins k d i)) in
      ap₂ (λ a b. a && (b && list_all (is_sound_join g.lines (get_or g.rounds n [])) joins)) (round_passes g.ends n (get_or g.rounds n []) (fit.rounds n in_rounds)) (sorted_back joins (fit.sorted n [] in_joins)) ∙ sound

  pub segments_pass : (s : ℕ) → s < length g.ends → segment_holds g (lines_listed g.lines) s ≡ true
  segments_pass s h =
      let no_ends : NodeId × NodeId = (record { 0 = 0 }, record { 0 = 0 }) in
      let in_lines : s < length g.lines = omega (arith, fit.lines_each) in
      let ends = fit.ends s no_ends h in
      let lines = fit.lines s [] in_lines in
      let listed : ByRecursion (λ (l : LineId). l.0 < lines_listed g.lines) (get_or g.lines s []) = All-from_recursion _ g.lines (each_listed g.lines) s [] in_lines in
      let all : list_all (λ (l : LineId). nat_lt l.0 (lines_listed g.lines)) (get_or g.lines s []) ≡ true = list_all-from_AllPass _ (get_or g.lines s []) (λ k d i. lt-ltb _ (lines_listed g.lines) (All-from_recursion _ (get_or g.lines s []) listed k d i)) in
      two_and_three _ _ _ _ _ (lt-ltb _ _ ends.0) (lt-ltb _ _ ends.1) (lt-ltb 0 _ lines.0) (rises_back _ lines.1) all

-- ---- limits

-- lines, each once
abbrev Once : List LineId → Type 0
Once [] = Unit {0}
Once (l ∷ ls) = (list_any (is_line l) ls ≡ false) × Once ls

same_line : (a b : LineId) → is_line a b ≡ true → a ≡ b
same_line a b t = ap (λ (n : ℕ). record { 0 = n }) (eqb-true a.0 b.0 t)

turned : (a b : LineId) → is_line a b ≡ false → is_line b a ≡ false
turned a b t = grind arith

once_more : (known : List LineId) (l : LineId) → Once known → list_any (is_line l) known ≡ false → Once (known ++ l ∷ [])
once_more [] l once new = (refl, tt)
once_more (k ∷ known) l once new =
    let apart = neither (is_line l k) (list_any (is_line l) known) new in
    (list_any-append (is_line k) known (l ∷ []) ∙ ap₂ (λ a b. a || (b || false)) once.0 (turned l k apart.0), once_more known l once.1 apart.1)
  where
    neither : (a b : Bool) → (a || b) ≡ false → (a ≡ false) × (b ≡ false)
    neither false b e = (refl, e)
    neither true b e = absurd (false≢true (sym e))

once_with : (known : List LineId) (l : LineId) → Once known → Once (with_line known l)
once_with known l once = by (list_any (is_line l) known) refl
  where
    by : (b : Bool) → list_any (is_line l) known ≡ b → Once (if b then known else known ++ l ∷ [])
    by true e = once
    by false e = once_more known l once e

once_lines : (known lines : List LineId) → Once known → Once (with_lines known lines)
once_lines known [] once = once
once_lines known (l ∷ lines) once = once_lines (with_line known l) lines (once_with known l once)

once_all : (known : List LineId) (segments : List (List LineId)) → Once known → Once (fold with_lines known segments)
once_all known [] once = once
once_all known (lines ∷ segments) once = once_all (with_lines known lines) segments (once_lines known lines once)

-- each of these is among those
abbrev Within : List LineId → List LineId → Type 0
Within all = ByRecursion (λ l. list_any (is_line l) all ≡ true)

within_one : (all known : List LineId) (l : LineId) → Within all known → list_any (is_line l) all ≡ true → Within all (with_line known l)
within_one all known l within here = by (list_any (is_line l) known)
  where
    behind : (known : List LineId) → Within all known → Within all (known ++ l ∷ [])
    behind [] w = (here, tt)
    behind (k ∷ known) w = (w.0, behind known w.1)

    by : (b : Bool) → Within all (if b then known else known ++ l ∷ [])
    by true = within
    by false = behind known within

within_lines : (all known lines : List LineId) → Within all known → Within all lines → Within all (with_lines known lines)
within_lines all known [] within here = within
within_lines all known (l ∷ lines) within here = within_lines all (with_line known l) lines (within_one all known l within here.0) here.1

within_all : (all known : List LineId) (segments : List (List LineId)) → Within all known → ByRecursion (Within all) segments → Within all (fold with_lines known segments)
within_all all known [] within here = within
within_all all known (lines ∷ segments) within here = within_all all (with_lines known lines) segments (within_lines all known lines within here.0) here.1

-- a list without one of its lines
abbrev Parted : List LineId → LineId → Type 0
Parted all l = (before : List LineId) × (after : List LineId) × (all ≡ before ++ l ∷ after)

parted : (all : List LineId) (l : LineId) → list_any (is_line l) all ≡ true → Parted all l
parted [] l t = absurd (false≢true t)
parted (a ∷ all) l t = by (is_line l a) refl t (λ t. parted all l t)
  where
    by : (b : Bool) → is_line l a ≡ b → (b || list_any (is_line l) all) ≡ true → (list_any (is_line l) all ≡ true → Parted all l) → Parted (a ∷ all) l
    by true e t later = ([], all, ap (λ (x : LineId). x ∷ all) (sym (same_line l a e)))
    by false e t later = let rest = later t in (a ∷ rest.0, rest.1, ap (λ (xs : List LineId). a ∷ xs) rest.2)

left_there : (before after : List LineId) (l : LineId) (ls : List LineId) → list_any (is_line l) ls ≡ false → Within (before ++ l ∷ after) ls → Within (before ++ after) ls
left_there before after l [] once within = tt
left_there before after l (k ∷ ls) once within = by (is_line l k) refl once (λ once. left_there before after l ls once within.1)
  where
    by : (b : Bool) → is_line l k ≡ b → (b || list_any (is_line l) ls) ≡ false → (list_any (is_line l) ls ≡ false → Within (before ++ after) ls) → Within (before ++ after) (k ∷ ls)
    by true e once later = absurd (false≢true (sym once))
    by false e once later = (
      list_any-append (is_line k) before after ∙ ap (λ (b : Bool). list_any (is_line k) before || (b || list_any (is_line k) after)) (sym (turned l k e)) ∙ sym (list_any-append (is_line k) before (l ∷ after)) ∙ within.0,
      later once,
    )

few_once : (ls all : List LineId) → Once ls → Within all ls → length ls ≤ length all
few_once [] all once within = omega arith
few_once (l ∷ ls) all once within =
    let r = parted all l within.0 in
    let rest = few_once ls (r.0 ++ r.1) once.1 (left_there r.0 r.1 l ls once.0 (subst (λ (xs : List LineId). Within xs ls) r.2 within.1)) in
    omega (arith, rest, ap length r.2, length-append r.0 (l ∷ r.1), length-append r.0 r.1)

-- as many different lines as there are on segments at most
pub few_lines : (most : ℕ) (segments : List (List LineId)) → (known : List LineId) → length known ≤ most → All (All (Contains known)) segments → length (lines_on segments) ≤ most
few_lines most segments known few each =
    omega (
      arith,
      few,
      few_once (lines_on segments) known (once_all [] segments tt) (within_all known [] segments tt
          (recursion_from_All _ segments (λ k d h. recursion_from_All _ _ (λ j e i. known_found _ (each k d h j e i))))),
    )
  where
    known_found : (l : LineId) → Contains known l → list_any (is_line l) known ≡ true
    known_found = found (λ (a b : LineId). b.0 == a.0) (λ a. eq-eqb a.0 a.0 refl) known
