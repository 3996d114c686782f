-- Children that are added line by line.
use Rattle.std.proofs.Common.{◌≡◌, ℕ, zero, suc, ◌+◌, ◌<◌, ◌==◌, ◌||◌, ◌&&◌, Bool, true, false, cond, List, [], ◌∷◌, ◌++◌, length, map, take, get_or, refl, sym, ◌∙◌, ap, arith, eq-eqb, append_assoc}
use Rattle.std.specs.List.{Contains}
use Rattle.std.proofs.lemmas.List.{take_more, append-nil}
use Rattle.map_base.specs.declared.ids.SegId.{SegId}
use Rattle.map_base.specs.declared.ids.LineId.{LineId}
use Rattle.order_model.specs.Problems.{lines_on}
use Rattle.order_model.specs.Prefixes.{is_placed, is_unplaced, is_left}
use Rattle.part_bounds.specs.PartStates.{PartState}
use Rattle.order_search.specs.declared.child.Child.{Child}
use Rattle.order_search.specs.declared.search_state.Search.{Search}
use Rattle.order_search.specs.Left.{lines_left}
use Rattle.order_search.specs.Children.{child_if}
use Rattle.order_search.specs.LiveTrees.{child_at}
use Rattle.order_search.specs.Searching.{part_of, IsUnderWay, HasChildren}

left_last : (placed xs : List LineId) (a : LineId) → lines_left (xs ++ a ∷ []) placed ≡ lines_left xs placed ++ cond (is_unplaced placed a) (a ∷ []) []
left_last placed [] a = refl
left_last placed (x ∷ xs) a = by_test (is_unplaced placed x) (left_last placed xs a)
  where
    by_test : (b : Bool) → lines_left (xs ++ a ∷ []) placed ≡ lines_left xs placed ++ cond (is_unplaced placed a) (a ∷ []) []
        → cond b (x ∷ lines_left (xs ++ a ∷ []) placed) (lines_left (xs ++ a ∷ []) placed)
        ≡ cond b (x ∷ lines_left xs placed) (lines_left xs placed) ++ cond (is_unplaced placed a) (a ∷ []) []
    by_test true h = ap (λ l. x ∷ l) h
    by_test false h = h

map_last : (f : LineId → Child) (xs : List LineId) (t : Bool) (a : LineId) → map f (xs ++ cond t (a ∷ []) []) ≡ map f xs ++ child_if t (f a)
map_last f [] true a = refl
map_last f [] false a = refl
map_last f (x ∷ xs) t a = ap (λ l. f x ∷ l) (map_last f xs t a)

pub on_lines : (lines : List LineId) (i : ℕ) (d : LineId) → i < length lines → Contains lines (get_or lines i d)
on_lines [] i d below = absurd (omega (arith, below))
on_lines (x ∷ lines) zero d below = (0, omega arith, refl)
on_lines (x ∷ lines) (suc i) d below = let rest = on_lines lines i d (omega (arith, below)) in (suc rest.0, omega (arith, rest.1), rest.2)

-- each of some lines is one of them
pub has_at : (lines : List LineId) (i : ℕ) (d : LineId) → i < length lines → is_placed lines (get_or lines i d) ≡ true
has_at [] i d below = absurd (omega (arith, below))
has_at (x ∷ lines) zero d below = rw (eq-eqb x.0 x.0 refl) refl
has_at (x ∷ lines) (suc i) d below = later (x.0 == (get_or lines i d).0) (is_placed lines (get_or lines i d)) (has_at lines i d (omega (arith, below)))
  where
    later : (s t : Bool) → t ≡ true → (s || t) ≡ true
    later true t h = refl
    later false t h = h

-- the lines that are left of one more
pub left_more : (f : LineId → Child) (lines placed : List LineId) (i : ℕ) (d : LineId) → i < length lines
    → map f (lines_left (take (i + 1) lines) placed) ≡ map f (lines_left (take i lines) placed) ++ child_if (is_left lines placed (get_or lines i d)) (f (get_or lines i d))
left_more f lines placed i d below =
    let a : LineId = get_or lines i d in
    ap (λ l. map f (lines_left l placed)) (take_more lines i d below)
    ∙ ap (map f) (left_last placed (take i lines) a)
    ∙ map_last f (lines_left (take i lines) placed) (is_unplaced placed a) a
    ∙ ap (λ t. map f (lines_left (take i lines) placed) ++ child_if (t && is_unplaced placed a) (f a)) (sym (has_at lines i d below))

-- one line more
pub children_more : (old mid new : Search) (s : SegId) (lines : List LineId) (i : ℕ) (d : LineId) → i < length lines → lines ≡ lines_on old.bounds.segs s
    → HasChildren old mid (map (child_at (part_of old.bounds) old.bounds.placed s) (lines_left (take i lines) (lines_on old.bounds.placed s)))
    → HasChildren mid new (child_if (is_left (lines_on mid.bounds.segs s) (lines_on mid.bounds.placed s) (get_or lines i d)) (child_at (part_of mid.bounds) mid.bounds.placed s (get_or lines i d)))
    → HasChildren old new (map (child_at (part_of old.bounds) old.bounds.placed s) (lines_left (take (i + 1) lines) (lines_on old.bounds.placed s)))
children_more old mid new s lines i d below is so_far step =
    let a : LineId = get_or lines i d in
    let f : LineId → Child = child_at (part_of old.bounds) old.bounds.placed s in
    let more : PartState → List Child = λ b. child_if (is_left (lines_on b.segs s) (lines_on b.placed s) a) (child_at (part_of b) b.placed s a) in
    let left : List LineId = lines_on old.bounds.placed s in
    record {
      under_way = step.under_way;
      bounds = step.bounds ∙ so_far.bounds;
      budget = step.budget ∙ so_far.budget;
      spent = step.spent ∙ so_far.spent;
      found = step.found ∙ so_far.found;
      children = step.children
          ∙ ap (λ b. mid.children.items ++ more b) so_far.bounds
          ∙ ap (λ l. l ++ more old.bounds) so_far.children
          ∙ append_assoc old.children.items (map f (lines_left (take i lines) left)) (more old.bounds)
          ∙ ap (λ l. old.children.items ++ (map f (lines_left (take i lines) left) ++ child_if (is_left l left a) (f a))) (sym is)
          ∙ ap (λ l. old.children.items ++ l) (sym (left_more f lines left i d below));
    }
