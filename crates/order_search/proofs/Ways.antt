-- The steps of a search, from state to state.
use Rattle.std.proofs.Common.{◌≡◌, ℕ, zero, suc, ◌+◌, ◌<◌, ◌≤◌, Bool, true, false, List, [], ◌∷◌, ◌++◌, length, map, take, drop, set, get_or, refl, sym, ◌∙◌, ap, subst, arith, length-append, Some, None}
use Rattle.std.specs.List.{All, Contains}
use Rattle.std.proofs.lemmas.Bool.{ltb-true, ltb-false}
use Rattle.std.proofs.lemmas.List.{length-map}
use Rattle.map_base.specs.declared.ids.SegId.{SegId}
use Rattle.map_base.specs.declared.ids.LineId.{LineId}
use Rattle.graph_core.specs.Consistent.{AreRising}
use Rattle.order_model.specs.declared.problem.ProblemParts.{ProblemParts}
use Rattle.order_model.specs.Problems.{lines_on}
use Rattle.order_model.specs.Prefixes.{is_placed, first_placed, without_last}
use Rattle.order_model.specs.Completions.{placed_more}
use Rattle.order_proof.specs.Plain.{PlainTree, cases_of}
use Rattle.order_proof.specs.Trees.{splits_of, splits_of_cases}
use Rattle.part_bounds.specs.PartStates.{PartState, with_placed, state_more, IsWell}
use Rattle.order_search.specs.declared.child.Child.{Child}
use Rattle.order_search.specs.declared.search_state.Search.{Search}
use Rattle.order_search.specs.declared.found.SearchFault.{SearchFault}
use Rattle.order_search.specs.declared.found.SearchFault.TheVariants as fault
use Rattle.order_search.specs.Left.{is_open, first_open, lines_left, room_of, AreNext}
use Rattle.order_search.specs.Children.{in_order, lines_in}
use Rattle.order_search.specs.LiveTrees.{BoundedPart, Best, better, child_at, next_lines, GrownTree, GrownCases, grow_cases, split_with, closed_with, live_at}
use Rattle.order_search.specs.Pricing.{unpriced}
use Rattle.order_search.specs.Searching.{part_of, best_of, due, seg_at, due_case, due_cases, due_upto, IsOfProblem, IsUnderWay, AreShut, IsOpenAt, IsKept, HasChildren, HasGrown, IsStop}
use Rattle.order_search.proofs.Rooms.{left_after}
use Rattle.order_search.proofs.Nodes.{fewer_left, complete_is, split_is, closed_is}
use Rattle.order_search.proofs.NextLines.{are_next}
use Rattle.order_search.proofs.Growing.{with_last, grown_upto, splits_upto}
use Rattle.order_search.proofs.Opening.{stays_shut}
use Rattle.part_bounds.proofs.Restored.{restored, chosen}

abbrev pub bare : PartState → BoundedPart
bare b = unpriced (part_of b)

-- The node of a search.

pub due_complete : (search : Search) → IsUnderWay search → first_open search.bounds.segs search.bounds.part search.bounds.placed ≡ None
    → due search ≡ closed_with (bare search.bounds) search.bounds.placed (better (part_of search.bounds) search.bounds.placed (best_of search))
due_complete search u complete = complete_is (bare search.bounds) u.known search.bounds.placed (best_of search) u.well.each complete

pub due_closed : (search : Search) (at : ℕ) → IsUnderWay search → IsOpenAt at search → search.cost ≤ (part_of search.bounds).bound search.bounds.placed
    → due search ≡ closed_with (bare search.bounds) search.bounds.placed (best_of search)
due_closed search at u opens above = closed_is (bare search.bounds) u.known search.bounds.placed (best_of search) (seg_at at search) u.well.each opens.first above

pub due_split : (search : Search) (at : ℕ) → IsUnderWay search → IsOpenAt at search → (part_of search.bounds).bound search.bounds.placed < search.cost
    → due search ≡ split_with (seg_at at search) (grow_cases (live_at (bare search.bounds)) (bare search.bounds) search.bounds.placed (seg_at at search)
    (next_lines (bare search.bounds) search.bounds.placed (seg_at at search)) (best_of search))
due_split search at u opens below = split_is (bare search.bounds) u.known search.bounds.placed (best_of search) (seg_at at search) u.well.each opens.first below

pub grown_closed : (search : Search) (at : ℕ) → IsUnderWay search → IsOpenAt at search → search.cost ≤ (part_of search.bounds).bound search.bounds.placed
    → HasGrown search search (due search).best (splits_of (due search).tree)
grown_closed search at u opens above =
    let is = due_closed search at u opens above in record {
      kept = record { under_way = u; bounds = refl; budget = refl; children = refl };
      found = ap (λ (g : GrownTree). g.best) (sym is);
      spent = omega (arith, ap (λ (g : GrownTree). splits_of g.tree) is);
    }

-- What depends on the state of the part alone.

pub open_kept : (old new : Search) (at : ℕ) → new.bounds ≡ old.bounds → IsOpenAt at old → IsOpenAt at new
open_kept old new at e opens = record {
  within = subst (λ (b : PartState). at < length b.part) (sym e) opens.within;
  shut = subst (λ (b : PartState). first_open b.segs (take at b.part) b.placed ≡ None) (sym e) opens.shut;
  first = subst (λ (b : PartState). first_open b.segs b.part b.placed ≡ Some (get_or b.part at (record { 0 = 0 }))) (sym e) opens.first;
}

abbrev pub seg_in : ℕ → PartState → SegId
seg_in at b = get_or b.part at (record { 0 = 0 })

abbrev pub cases_by : ℕ → PartState → List LineId → Best → GrownCases
cases_by at b lines best = grow_cases (live_at (bare b)) (bare b) b.placed (seg_in at b) lines best

-- The children of a split.

pub drop_front : (xs ys : List Child) (n : ℕ) → n ≡ length xs → drop n (xs ++ ys) ≡ ys
drop_front xs ys n e = ap (λ k. drop k (xs ++ ys)) e ∙ whole xs
  where
    whole : (zs : List Child) → drop (length zs) (zs ++ ys) ≡ ys
    whole [] = refl
    whole (z ∷ zs) = whole zs

abbrev pub kids_at : ℕ → PartState → List Child
kids_at at b = in_order (map (child_at (part_of b) b.placed (seg_in at b)) (lines_left (lines_on b.segs (seg_in at b)) (lines_on b.placed (seg_in at b))))

pub lines_pushed : (old new : Search) (at start : ℕ) → start ≡ length old.children.items → new.children.items ≡ old.children.items ++ kids_at at old.bounds
    → lines_in (drop start new.children.items) ≡ next_lines (bare old.bounds) old.bounds.placed (seg_at at old)
lines_pushed old new at start e is =
    ap (λ l. lines_in (drop start l)) is ∙ ap lines_in (drop_front old.children.items (kids_at at old.bounds) start e)

pub cases_pushed : (old new : Search) (at start : ℕ) → new.bounds ≡ old.bounds → best_of new ≡ best_of old → start ≡ length old.children.items
    → new.children.items ≡ old.children.items ++ kids_at at old.bounds
    → due_cases at start new
    ≡ grow_cases (live_at (bare old.bounds)) (bare old.bounds) old.bounds.placed (seg_at at old) (next_lines (bare old.bounds) old.bounds.placed (seg_at at old)) (best_of old)
cases_pushed old new at start b f e is =
    let lines : List LineId = next_lines (bare old.bounds) old.bounds.placed (seg_at at old) in
    ap (λ l. cases_by at new.bounds l (best_of new)) (lines_pushed old new at start e is)
    ∙ ap (λ s. cases_by at s lines (best_of new)) b
    ∙ ap (cases_by at old.bounds lines) f

pub next_pushed : (old new : Search) (at start : ℕ) → new.bounds ≡ old.bounds → start ≡ length old.children.items → new.children.items ≡ old.children.items ++ kids_at at old.bounds
    → AreNext new.bounds.segs new.bounds.placed (seg_at at new) (lines_in (drop start new.children.items))
next_pushed old new at start b e is =
    subst (λ (s : PartState). AreNext s.segs s.placed (seg_in at s) (lines_in (drop start new.children.items))) (sym b)
    (subst (AreNext old.bounds.segs old.bounds.placed (seg_at at old)) (sym (lines_pushed old new at start e is)) (are_next (bare old.bounds) old.bounds.placed (seg_at at old)))

-- Case by case.

line_there : (items : List Child) (start k : ℕ) (d : Child) → k + start < length items → get_or (lines_in (drop start items)) k d.line ≡ (get_or items (start + k) d).line
line_there [] start k d below = absurd (omega (arith, below))
line_there (x ∷ items) zero zero d below = refl
line_there (x ∷ items) zero (suc k) d below = line_there items zero k d (omega (arith, below)) ∙ (let e : suc (zero + k) ≡ zero + suc k = omega arith in ap (λ n. (get_or (x ∷ items) n d).line) e)
line_there (x ∷ items) (suc start) k d below = line_there items start k d (omega (arith, below)) ∙ (let e : suc (start + k) ≡ suc start + k = omega arith in ap (λ n. (get_or (x ∷ items) n d).line) e)

pub line_at : (old new : Search) (start k : ℕ) (d : Child) → new.children.items ≡ old.children.items → k + start < length old.children.items
    → get_or (lines_in (drop start old.children.items)) k d.line ≡ (get_or new.children.items (start + k) d).line
line_at old new start k d is below = line_there old.children.items start k d below ∙ ap (λ l. (get_or l (start + k) d).line) (sym is)

pub count_lines : (items : List Child) (start count : ℕ) → count + start ≡ length items → length (lines_in (drop start items)) ≡ count
count_lines [] zero count e = omega (arith, e)
count_lines [] (suc start) count e = absurd (omega (arith, e))
count_lines (x ∷ items) zero count e = length-map (x ∷ items) (λ (c : Child). c.line) ∙ omega (arith, e)
count_lines (x ∷ items) (suc start) count e = count_lines items start count (omega (arith, e))

-- the case of the next child, from where the cases so far have led
pub case_next : (old mid : Search) (at start k : ℕ) (line : LineId) → mid.bounds ≡ old.bounds → best_of mid ≡ (due_upto at start k old).best
    → due_case at line mid ≡ live_at (bare old.bounds) (placed_more old.bounds.segs old.bounds.placed (seg_at at old) line) (due_upto at start k old).best
case_next old mid at start k line b f =
    ap (λ (s : PartState). live_at (bare s) (placed_more s.segs s.placed (seg_in at s) line) (best_of mid)) b
    ∙ ap (live_at (bare old.bounds) (placed_more old.bounds.segs old.bounds.placed (seg_at at old) line)) f

-- one case more
pub upto_more : (old mid : Search) (at start k : ℕ) (d : LineId) (line : LineId) → mid.bounds ≡ old.bounds → best_of mid ≡ (due_upto at start k old).best
    → k < length (lines_in (drop start old.children.items)) → get_or (lines_in (drop start old.children.items)) k d ≡ line
    → due_upto at start (k + 1) old ≡ with_last (due_upto at start k old) line (due_case at line mid)
upto_more old mid at start k d line b f below is =
    let lines : List LineId = lines_in (drop start old.children.items) in
    let next : LineId → GrownTree = λ a. live_at (bare old.bounds) (placed_more old.bounds.segs old.bounds.placed (seg_at at old) a) (due_upto at start k old).best in
    grown_upto (live_at (bare old.bounds)) (bare old.bounds) old.bounds.placed (seg_at at old) lines k d (best_of old) below
    ∙ ap (λ a. with_last (due_upto at start k old) a (next a)) is
    ∙ ap (with_last (due_upto at start k old) line) (sym (case_next old mid at start k line b f))

splits_last : (g : GrownCases) (a : LineId) (t : GrownTree) → splits_of_cases (cases_of (with_last g a t).cases) ≡ splits_of_cases (cases_of g.cases) + splits_of t.tree
splits_last g a t = by_cases g.cases
  where
    by_cases : (cs : List (LineId × PlainTree)) → splits_of_cases (cases_of (cs ++ (a, t.tree) ∷ [])) ≡ splits_of_cases (cases_of cs) + splits_of t.tree
    by_cases [] = omega arith
    by_cases (c ∷ cs) = omega (arith, by_cases cs)

-- the splits so far and those of the next case are no more than those of all cases
pub most_upto : (old mid : Search) (at start k : ℕ) (d line : LineId) → mid.bounds ≡ old.bounds → best_of mid ≡ (due_upto at start k old).best
    → k < length (lines_in (drop start old.children.items)) → get_or (lines_in (drop start old.children.items)) k d ≡ line
    → splits_of_cases (cases_of (due_upto at start k old).cases) + splits_of (due_case at line mid).tree ≤ splits_of_cases (cases_of (due_cases at start old).cases)
most_upto old mid at start k d line b f below is =
    let lines : List LineId = lines_in (drop start old.children.items) in
    let upto = splits_upto (live_at (bare old.bounds)) (bare old.bounds) old.bounds.placed (seg_at at old) lines k d (best_of old) below in
    let same : splits_of (due_case at line mid).tree
    ≡ splits_of (live_at (bare old.bounds) (placed_more old.bounds.segs old.bounds.placed (seg_at at old) (get_or lines k d)) (due_upto at start k old).best).tree =
    ap (λ (g : GrownTree). splits_of g.tree) (case_next old mid at start k line b f)
    ∙ ap (λ a. splits_of (live_at (bare old.bounds) (placed_more old.bounds.segs old.bounds.placed (seg_at at old) a) (due_upto at start k old).best).tree) (sym is) in
    omega (arith, upto, same)

kept_then : (old mid new : Search) → IsKept old mid → IsKept mid new → IsKept old new
kept_then old mid new p r = record {
  under_way = r.under_way;
  bounds = r.bounds ∙ p.bounds;
  budget = r.budget ∙ p.budget;
  children = r.children ∙ p.children;
}

pub grown_more : (old mid new : Search) (at start k : ℕ) (d line : LineId)
    → HasGrown old mid (due_upto at start k old).best (splits_of_cases (cases_of (due_upto at start k old).cases))
    → HasGrown mid new (due_case at line mid).best (splits_of (due_case at line mid).tree)
    → k < length (lines_in (drop start old.children.items)) → get_or (lines_in (drop start old.children.items)) k d ≡ line
    → HasGrown old new (due_upto at start (k + 1) old).best (splits_of_cases (cases_of (due_upto at start (k + 1) old).cases))
grown_more old mid new at start k d line so_far step below is =
    let more = upto_more old mid at start k d line so_far.kept.bounds so_far.found below is in record {
      kept = kept_then old mid new so_far.kept step.kept;
      found = step.found ∙ ap (λ (g : GrownCases). g.best) (sym more);
      spent = omega (
        arith,
        step.spent,
        so_far.spent,
        ap (λ (g : GrownCases). splits_of_cases (cases_of g.cases)) more,
        splits_last (due_upto at start k old) line (due_case at line mid),
      );
    }

-- A case: its line is placed, and taken back.

of_more : (x y : ProblemParts) (old new : PartState) (s : SegId) (a : LineId) → y ≡ x → new ≡ state_more old s a → IsOfProblem x old → IsOfProblem y new
of_more x y old new s a p b of =
    let here : IsOfProblem x (state_more old s a) = record { terms = of.terms; fits = of.fits; rises = of.rises } in
    subst (λ z. IsOfProblem z new) (sym p) (subst (IsOfProblem x) (sym b) here)

of_less : (x y : ProblemParts) (old mid new : PartState) (s : SegId) (a : LineId) → y ≡ x → mid ≡ state_more old s a → new ≡ old → IsOfProblem x mid → IsOfProblem y new
of_less x y old mid new s a p m b of =
    let there = subst (IsOfProblem x) m of in
    let here : IsOfProblem x old = record { terms = there.terms; fits = there.fits; rises = there.rises } in
    subst (λ z. IsOfProblem z new) (sym p) (subst (IsOfProblem x) (sym b) here)

pub way_placed : (old new : Search) (at : ℕ) (line : LineId) → IsUnderWay old → new.problem.now ≡ old.problem.now → new.part.now ≡ old.part.now
    → new.spent ≡ old.spent → new.budget ≡ old.budget → new.bounds ≡ state_more old.bounds (seg_at at old) line → IsWell new.bounds.segs new.bounds.placed → IsUnderWay new
way_placed old new at line u p q s t b well = record {
  segs = ap (λ (x : ProblemParts). x.segs) p ∙ u.segs ∙ ap (λ (x : PartState). x.segs) (sym b);
  problem = of_more old.problem.now new.problem.now old.bounds new.bounds (seg_at at old) line p b u.problem;
  part = q ∙ u.part ∙ ap (λ (x : PartState). x.part) (sym b);
  rising = subst (λ (x : PartState). All AreRising x.segs) (sym b) u.rising;
  known = subst (λ (x : PartState). All (λ (s : SegId). s.0 < length x.segs) x.part) (sym b) u.known;
  well = well;
  within = omega (arith, u.within, s, t);
  budget = omega (arith, u.budget, t);
}

pub seg_known : (search : Search) (at : ℕ) → IsUnderWay search → IsOpenAt at search → (seg_at at search).0 < length search.bounds.segs
seg_known search at u opens = u.known at (record { 0 = 0 }) opens.within

shut_after : (b : PartState) (s : SegId) (a : LineId) (u : SegId) → s.0 < length b.placed → is_open b.segs b.placed u ≡ false → is_open b.segs (placed_more b.segs b.placed s a) u ≡ false
shut_after b s a u known shut = by_test (is_open b.segs (placed_more b.segs b.placed s a) u) refl
  where
    by_test : (t : Bool) → is_open b.segs (placed_more b.segs b.placed s a) u ≡ t → t ≡ false
    by_test true e =
        absurd (omega (
          arith,
          ltb-true (length (lines_on (placed_more b.segs b.placed s a) u)) (length (lines_on b.segs u)) e,
          ltb-false (length (lines_on b.placed u)) (length (lines_on b.segs u)) shut,
          left_after b.segs b.placed s a u known,
        ))
    by_test false e = refl

pub shut_placed : (old new : Search) (at : ℕ) (line : LineId) → IsUnderWay old → IsOpenAt at old → new.bounds ≡ state_more old.bounds (seg_at at old) line → AreShut at new
shut_placed old new at line u opens b =
    let s : SegId = seg_at at old in
    let known : s.0 < length old.bounds.placed = omega (arith, u.well.each, seg_known old at u opens) in
    subst (λ (x : PartState). first_open x.segs (take at x.part) x.placed ≡ None) (sym b)
    (stays_shut (is_open old.bounds.segs old.bounds.placed) (is_open old.bounds.segs (placed_more old.bounds.segs old.bounds.placed s line)) (take at old.bounds.part)
    (λ v. shut_after old.bounds s line v known) opens.shut)

pub room_placed : (old new : Search) (at : ℕ) (line : LineId) → IsUnderWay old → IsOpenAt at old → new.bounds ≡ state_more old.bounds (seg_at at old) line
    → room_of new.bounds.segs new.bounds.part new.bounds.placed < room_of old.bounds.segs old.bounds.part old.bounds.placed
room_placed old new at line u opens b =
    subst (λ (x : PartState). room_of x.segs x.part x.placed < room_of old.bounds.segs old.bounds.part old.bounds.placed) (sym b)
    (fewer_left (bare old.bounds) u.known old.bounds.placed (seg_at at old) line u.well.each opens.first)

pub due_placed : (old new : Search) (at : ℕ) (line : LineId) → new.bounds ≡ state_more old.bounds (seg_at at old) line → best_of new ≡ best_of old → due new ≡ due_case at line old
due_placed old new at line b f =
    ap (λ (x : PartState). live_at (bare x) x.placed (best_of new)) b
    ∙ ap (live_at (bare old.bounds) (placed_more old.bounds.segs old.bounds.placed (seg_at at old) line)) f

pub back_placed : (old mid : PartState) (s : SegId) (a : LineId) → IsWell old.segs old.placed → s.0 < length old.segs → All AreRising old.segs → mid ≡ state_more old s a
    → with_placed mid (set mid.placed s.0 (without_last (lines_on mid.segs s) (lines_on mid.placed s))) ≡ old
back_placed old mid s a well known rising e =
    ap (λ (x : PartState). with_placed x (set x.placed s.0 (without_last (lines_on x.segs s) (lines_on x.placed s)))) e ∙ restored old s a well known rising

pub grown_back : (old down up new : Search) (at : ℕ) (line : LineId) → IsUnderWay old → IsOpenAt at old
    → down.bounds ≡ state_more old.bounds (seg_at at old) line → best_of down ≡ best_of old → down.spent ≡ old.spent → down.budget ≡ old.budget → down.children.items ≡ old.children.items
    → HasGrown down up (due down).best (splits_of (due down).tree)
    → new.problem.now ≡ up.problem.now → new.part.now ≡ up.part.now → new.spent ≡ up.spent → new.budget ≡ up.budget → new.children.items ≡ up.children.items
    → best_of new ≡ best_of up
    → new.bounds ≡ with_placed up.bounds (set up.bounds.placed (seg_at at old).0 (without_last (lines_on up.bounds.segs (seg_at at old)) (lines_on up.bounds.placed (seg_at at old))))
    → HasGrown old new (due_case at line old).best (splits_of (due_case at line old).tree)
grown_back old down up new at line u opens db df ds dt dc grown p q s t c f b =
    let is : due down ≡ due_case at line old = due_placed old down at line db df in
    let same : new.bounds ≡ old.bounds = b ∙ back_placed old.bounds up.bounds (seg_at at old) line u.well (seg_known old at u opens) u.rising (grown.kept.bounds ∙ db) in
    let w = grown.kept.under_way in
    let up_segs : up.bounds.segs ≡ old.bounds.segs = ap (λ (x : PartState). x.segs) (grown.kept.bounds ∙ db) in
    let up_part : up.bounds.part ≡ old.bounds.part = ap (λ (x : PartState). x.part) (grown.kept.bounds ∙ db) in
    record {
      kept = record {
        under_way = record {
          problem = of_less up.problem.now new.problem.now old.bounds up.bounds new.bounds (seg_at at old) line p (grown.kept.bounds ∙ db) same w.problem;
          segs = ap (λ (x : ProblemParts). x.segs) p ∙ w.segs ∙ up_segs ∙ ap (λ (x : PartState). x.segs) (sym same);
          part = q ∙ w.part ∙ up_part ∙ ap (λ (x : PartState). x.part) (sym same);
          rising = subst (λ (x : PartState). All AreRising x.segs) (sym same) u.rising;
          known = subst (λ (x : PartState). All (λ (s : SegId). s.0 < length x.segs) x.part) (sym same) u.known;
          well = subst (λ (x : PartState). IsWell x.segs x.placed) (sym same) u.well;
          within = omega (arith, w.within, s, t);
          budget = omega (arith, w.budget, t);
        };
        bounds = same;
        budget = t ∙ grown.kept.budget ∙ dt;
        children = c ∙ grown.kept.children ∙ dc;
      };
      found = f ∙ grown.found ∙ ap (λ (g : GrownTree). g.best) is;
      spent = omega (arith, s, grown.spent, ds, ap (λ (g : GrownTree). splits_of g.tree) is);
    }

-- A split is whole.

pub grown_whole : (old one pushed last new : Search) (at start : ℕ) → IsUnderWay old → IsOpenAt at old → (part_of old.bounds).bound old.bounds.placed < old.cost
    → one.bounds ≡ old.bounds → best_of one ≡ best_of old → one.spent ≡ old.spent + 1 → one.budget ≡ old.budget → one.children.items ≡ old.children.items
    → start ≡ length old.children.items → HasChildren one pushed (kids_at at old.bounds)
    → HasGrown pushed last (due_cases at start pushed).best (splits_of_cases (cases_of (due_cases at start pushed).cases))
    → IsUnderWay new → new.bounds ≡ last.bounds → best_of new ≡ best_of last → new.spent ≡ last.spent → new.budget ≡ last.budget → new.children.items ≡ take start last.children.items
    → HasGrown old new (due old).best (splits_of (due old).tree)
grown_whole old one pushed last new at start u opens below ob of os ot oc e kids grown way nb nf ns nt nc =
    let is = due_split old at u opens below in
    let items : pushed.children.items ≡ old.children.items ++ kids_at at old.bounds = kids.children ∙ ap (λ l. l ++ kids_at at old.bounds) oc in
    let cases = cases_pushed old pushed at start (kids.bounds ∙ ob) (kids.found ∙ of) e items in
    let whole : due old ≡ split_with (seg_at at old) (due_cases at start pushed) = is ∙ ap (split_with (seg_at at old)) (sym cases) in
    record {
      kept = record {
        under_way = way;
        bounds = nb ∙ grown.kept.bounds ∙ kids.bounds ∙ ob;
        budget = nt ∙ grown.kept.budget ∙ kids.budget ∙ ot;
        children = nc ∙ ap (take start) (grown.kept.children ∙ items) ∙ take_front old.children.items (kids_at at old.bounds) start e;
      };
      found = nf ∙ grown.found ∙ ap (λ (g : GrownTree). g.best) (sym whole);
      spent = omega (arith, ns, grown.spent, kids.spent, os, ap (λ (g : GrownTree). splits_of g.tree) whole);
    }
  where
    take_front : (xs ys : List Child) (n : ℕ) → n ≡ length xs → take n (xs ++ ys) ≡ xs
    take_front xs ys n e = ap (λ k. take k (xs ++ ys)) e ∙ front xs
      where
        front : (zs : List Child) → take (length zs) (zs ++ ys) ≡ zs
        front [] = refl
        front (z ∷ zs) = ap (λ l. z ∷ l) (front zs)

-- the split that is due, by the cases of its children
pub whole_due : (old one pushed : Search) (at start : ℕ) → IsUnderWay old → IsOpenAt at old → (part_of old.bounds).bound old.bounds.placed < old.cost
    → one.bounds ≡ old.bounds → best_of one ≡ best_of old → one.children.items ≡ old.children.items
    → start ≡ length old.children.items → HasChildren one pushed (kids_at at old.bounds)
    → due old ≡ split_with (seg_at at old) (due_cases at start pushed)
whole_due old one pushed at start u opens below ob of oc e kids =
    let items : pushed.children.items ≡ old.children.items ++ kids_at at old.bounds = kids.children ∙ ap (λ l. l ++ kids_at at old.bounds) oc in
    due_split old at u opens below ∙ ap (split_with (seg_at at old)) (sym (cases_pushed old pushed at start (kids.bounds ∙ ob) (kids.found ∙ of) e items))

-- the children of the segment of the part
pub kids_by : (one pushed old : Search) (at : ℕ) → old.part.now ≡ old.bounds.part
    → HasChildren one pushed (in_order (map (child_at (part_of old.bounds) old.bounds.placed (get_or old.part.now at (record { 0 = 0 })))
    (lines_left (lines_on old.bounds.segs (get_or old.part.now at (record { 0 = 0 }))) (lines_on old.bounds.placed (get_or old.part.now at (record { 0 = 0 }))))))
    → HasChildren one pushed (kids_at at old.bounds)
kids_by one pushed old at is kids =
    subst (λ (p : List SegId). HasChildren one pushed (in_order (map (child_at (part_of old.bounds) old.bounds.placed (get_or p at (record { 0 = 0 })))
    (lines_left (lines_on old.bounds.segs (get_or p at (record { 0 = 0 }))) (lines_on old.bounds.placed (get_or p at (record { 0 = 0 }))))))) is kids

pub front_fits : (old kids new : List Child) (start : ℕ) → start ≡ length old → new ≡ old ++ kids → start ≤ length new
front_fits old kids new start e is = omega (arith, e, ap length is, length-append old kids)

-- the prefix that a line was taken back from
abbrev pub taken_at : PartState → SegId → PartState
taken_at b s = with_placed b (set b.placed s.0 (without_last (lines_on b.segs s) (lines_on b.placed s)))

pub chosen_placed : (old mid : PartState) (s : SegId) (a : LineId) → IsWell old.segs old.placed → mid ≡ state_more old s a → s.0 < length old.segs
    → length (first_placed (lines_on mid.segs s)) < length (lines_on mid.placed s)
chosen_placed old mid s a well e known =
    subst (λ (x : PartState). length (first_placed (lines_on x.segs s)) < length (lines_on x.placed s)) (sym e) (chosen old.segs old.placed s a well known)

-- the next child can be placed
pub case_ready : (old mid : Search) (at start k : ℕ) (d line : LineId) → mid.bounds ≡ old.bounds
    → AreNext old.bounds.segs old.bounds.placed (seg_at at old) (lines_in (drop start old.children.items))
    → k < length (lines_in (drop start old.children.items)) → get_or (lines_in (drop start old.children.items)) k d ≡ line
    → Contains (lines_on mid.bounds.segs (seg_at at mid)) line × (is_placed (lines_on mid.bounds.placed (seg_at at mid)) line ≡ false)
case_ready old mid at start k d line b next below is =
    let P : PartState → LineId → Type 0 = λ s a. Contains (lines_on s.segs (seg_in at s)) a × (is_placed (lines_on s.placed (seg_in at s)) a ≡ false) in
    subst (λ (s : PartState). P s line) (sym b) (subst (P old.bounds) is (next k d below))

-- More branch nodes are a stop too.
pub stop_later : (budget other n m : ℕ) (f : SearchFault) → budget ≡ other → n ≤ m → IsStop budget n f → IsStop other m f
stop_later budget other n m f e less h = more f (subst (λ b. IsStop b n f) e h)
  where
    more : (f : SearchFault) → IsStop other n f → IsStop other m f
    more (fault.Spent branches) h = (omega (arith, h.0, less), h.1)
    more (fault.TooDeep l) h = absurd h
    more fault.NoMemory h = tt

-- a split has a branch node
pub some_branches : (search : Search) (at : ℕ) → IsUnderWay search → IsOpenAt at search → (part_of search.bounds).bound search.bounds.placed < search.cost
    → 1 ≤ splits_of (due search).tree
some_branches search at u opens below = omega (arith, ap (λ (g : GrownTree). splits_of g.tree) (due_split search at u opens below))
