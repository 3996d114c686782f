-- Marks of the lines of a segment, grown as the closure of a line grows.
use Rattle.std.proofs.Common.{◌≡◌, ℕ, zero, suc, ◌+◌, ◌-◌, ◌<◌, ◌≤◌, ◌==◌, Bool, true, false, not, cond, ◌||◌, ◌&&◌, Option, Some, None, List, [], ◌∷◌, ◌++◌, length, map, get_or, set, take, refl, sym, ap, ◌∙◌, arith, append_assoc, append-nil, true≢false}
use Rattle.std.specs.Prelude.{filter, replicate, if◌then◌else◌, Vec}
use Rattle.std.specs.Global.{Global}
use Rattle.std.specs.List.{list_any}
use Rattle.std.proofs.lemmas.List.{map_more, length-map}
use Rattle.map_base.specs.declared.ids.SegId.{SegId}
use Rattle.map_base.specs.declared.ids.LineId.{LineId}
use Rattle.order_model.specs.declared.term.Term.{Term}
use Rattle.order_rules.specs.Dividing.{are_none, others, can_part, is_held, grown}
use Rattle.order_rules.proofs.Unchanged.{filter_alike}
use Rattle.order_untangle.specs.Segments.{most_by_lines, is_held_by, held_rows, rows_of, any_marked, next_marks, grown_marks, marked, group_if, group_by, first_group, place_group, first_at}

-- Marks and lists.

marked_map : (p : LineId → Bool) (lines : List LineId) → marked (map p lines) lines ≡ filter p lines
marked_map p [] = refl
marked_map p (a ∷ lines) = ap (λ (xs : List LineId). cond (p a) (a ∷ xs) xs) (marked_map p lines)

any_map : (marks : List Bool) (f : LineId → Bool) (lines : List LineId) → any_marked marks (map f lines) ≡ list_any f (marked marks lines)
any_map [] f lines = refl
any_map (m ∷ marks) f [] = refl
any_map (m ∷ marks) f (a ∷ lines) = by_test m (any_map marks f lines)
  where
    by_test : (c : Bool) → any_marked marks (map f lines) ≡ list_any f (marked marks lines)
        → ((c && f a) || any_marked marks (map f lines)) ≡ list_any f (if c then a ∷ marked marks lines else marked marks lines)
    by_test true rest = ap (λ (b : Bool). f a || b) rest
    by_test false rest = rest

map_map : (g : List Bool → Bool) (f : LineId → List Bool) (lines : List LineId) → map g (map f lines) ≡ map (λ b. g (f b)) lines
map_map g f [] = refl
map_map g f (a ∷ lines) = ap (λ (bs : List Bool). g (f a) ∷ bs) (map_map g f lines)

mix : (a b c d : Bool) → ((a || c) || (b || d)) ≡ ((a || b) || (c || d))
mix true b c d = refl
mix false true true d = refl
mix false true false d = refl
mix false false true d = refl
mix false false false d = refl

any_or : (f g : LineId → Bool) (xs : List LineId) → list_any (λ x. f x || g x) xs ≡ (list_any f xs || list_any g xs)
any_or f g [] = refl
any_or f g (x ∷ xs) = ap (λ (b : Bool). (f x || g x) || b) (any_or f g xs) ∙ mix (f x) (list_any f xs) (g x) (list_any g xs)

module _ (most : ℕ) (here : List Term) (e : SegId) (lines : List LineId) where
  held_is : (marks : List Bool) (b : LineId) → any_marked marks (map (is_held_by most here e b) lines) ≡ is_held most here e (marked marks lines) b
  held_is marks b =
      any_map marks (is_held_by most here e b) lines
      ∙ any_or (λ a. a.0 == b.0) (λ a. not (can_part most here e a b)) (marked marks lines)

  next_is : (marks : List Bool) → marked (next_marks (held_rows most here e lines) marks) lines ≡ filter (is_held most here e (marked marks lines)) lines
  next_is marks =
      ap (λ (ms : List Bool). marked ms lines) (map_map (any_marked marks) (λ b. map (is_held_by most here e b) lines) lines)
      ∙ (marked_map (λ b. any_marked marks (map (is_held_by most here e b) lines)) lines
      ∙ filter_alike (λ b. any_marked marks (map (is_held_by most here e b) lines)) (is_held most here e (marked marks lines)) lines (held_is marks))

  grown_is : (n : ℕ) (marks : List Bool) → marked (grown_marks (held_rows most here e lines) n marks) lines ≡ grown most here e lines n (marked marks lines)
  grown_is zero marks = refl
  grown_is (suc n) marks = grown_is n (next_marks (held_rows most here e lines) marks) ∙ ap (grown most here e lines n) (next_is marks)

none_marked : (lines : List LineId) → marked (replicate (length lines) false) lines ≡ []
none_marked [] = refl
none_marked (a ∷ lines) = none_marked lines

one_marked : (lines : List LineId) (i : ℕ) (d : LineId) → i < length lines → marked (set (replicate (length lines) false) i true) lines ≡ get_or lines i d ∷ []
one_marked [] i d below = absurd (omega (arith, below))
one_marked (a ∷ lines) zero d below = ap (λ (xs : List LineId). a ∷ xs) (none_marked lines)
one_marked (a ∷ lines) (suc i) d below = one_marked lines i d (omega (arith, below))

-- The first group.

first_is : (f : ℕ → Option (List LineId)) (g : LineId → Option (List LineId)) (d : LineId) (xs : List LineId) (k : ℕ)
    → ((i : ℕ) → i < length xs → f (k + i) ≡ g (get_or xs i d)) → first_at f (length xs) k ≡ first_group g xs
first_is f g d [] k h = refl
first_is f g d (x ∷ xs) k h =
    by_first (f k) (g x) (first_at f (length xs) (k + 1)) (first_group g xs) (ap f start ∙ h zero (omega arith))
    (first_is f g d xs (k + 1) (λ i below. ap f (shift i) ∙ h (suc i) (omega (arith, below))))
  where
    start : k ≡ k + zero
    start = omega arith

    shift : (i : ℕ) → (k + 1) + i ≡ k + suc i
    shift i = omega arith

    by_first : (o q : Option (List LineId)) (r s : Option (List LineId)) → o ≡ q → r ≡ s
        → ◌≡◌ {A = Option (List LineId)} (elim o as (λ _. Option (List LineId)) [ None ↦ r | Some group ↦ Some group ]) (elim q as (λ _. Option (List LineId)) [ None ↦ s | Some group ↦ Some group ])
    by_first o q r s same rest =
        ap (λ (x : Option (List LineId)). let y : Option (List LineId) = elim x as (λ _. Option (List LineId)) [ None ↦ r | Some group ↦ Some group ] in y) same
        ∙ ap (λ (x : Option (List LineId)). let y : Option (List LineId) = elim q as (λ _. Option (List LineId)) [ None ↦ x | Some group ↦ Some group ] in y) rest

pub first_place : (here : List Term) (e : SegId) (lines : List LineId) (rows : List (List Bool)) → rows ≡ held_rows (most_by_lines here e lines) here e lines
    → first_at (place_group rows lines) (length lines) 0 ≡ first_group (group_by here e lines) lines
first_place here e lines rows is =
    ap (λ (rs : List (List Bool)). first_at (place_group rs lines) (length lines) 0) is
    ∙ first_is (place_group (held_rows most here e lines) lines) (group_by here e lines) none lines 0
    (λ i below. ap (λ (k : ℕ). place_group (held_rows most here e lines) lines k) (same i)
    ∙ ap (group_if lines)
    (grown_is most here e lines (length lines) (set (replicate (length lines) false) i true) ∙ ap (grown most here e lines (length lines)) (one_marked lines i none below)))
  where
    most : ℕ
    most = most_by_lines here e lines

    none : LineId
    none = record { 0 = 0 }

    same : (i : ℕ) → 0 + i ≡ i
    same i = omega arith

-- Loops.

pub first_more : (f : ℕ → Option (List LineId)) (n k : ℕ) → k < n → f k ≡ None → first_at f (n - k) k ≡ first_at f (n - (k + 1)) (k + 1)
first_more f n k below none =
    let one : n - k ≡ suc (n - (k + 1)) = omega (arith, below) in
    ap (λ (m : ℕ). first_at f m k) one
    ∙ ap (λ (x : Option (List LineId)). let y : Option (List LineId) = elim x as (λ _. Option (List LineId)) [ None ↦ first_at f (n - (k + 1)) (k + 1) | Some group ↦ Some group ] in y) none

pub first_found : (f : ℕ → Option (List LineId)) (n k : ℕ) (group : List LineId) → k < n → f k ≡ Some group → first_at f (n - k) k ≡ Some group
first_found f n k group below some =
    let one : n - k ≡ suc (n - (k + 1)) = omega (arith, below) in
    ap (λ (m : ℕ). first_at f m k) one
    ∙ ap (λ (x : Option (List LineId)). let y : Option (List LineId) = elim x as (λ _. Option (List LineId)) [ None ↦ first_at f (n - (k + 1)) (k + 1) | Some g ↦ Some g ] in y) some

pub first_none : (f : ℕ → Option (List LineId)) (n k : ℕ) → n ≤ k → first_at f (n - k) k ≡ None
first_none f n k done = let nothing : n - k ≡ 0 = omega (arith, done) in ap (λ (m : ℕ). first_at f m k) nothing

pub grown_more : (rows : List (List Bool)) (n k : ℕ) (marks next : List Bool) → k < n → next ≡ next_marks rows marks → grown_marks rows (n - (k + 1)) next ≡ grown_marks rows (n - k) marks
grown_more rows n k marks next below is =
    let one : suc (n - (k + 1)) ≡ n - k = omega (arith, below) in
    ap (grown_marks rows (n - (k + 1))) is ∙ ap (λ (m : ℕ). grown_marks rows m marks) one

grown_same : (rows : List (List Bool)) (n : ℕ) (marks : List Bool) → next_marks rows marks ≡ marks → grown_marks rows n marks ≡ marks
grown_same rows zero marks h = refl
grown_same rows (suc n) marks h = ap (grown_marks rows n) h ∙ grown_same rows n marks h

pub grown_still : (rows : List (List Bool)) (n : ℕ) (marks next : List Bool) → next ≡ next_marks rows marks → marks ≡ next → marks ≡ grown_marks rows n marks
grown_still rows n marks next is same = sym (grown_same rows n marks (sym is ∙ sym same))

pub grown_done : (rows : List (List Bool)) (n k : ℕ) (marks : List Bool) → n ≤ k → grown_marks rows (n - k) marks ≡ marks
grown_done rows n k marks done = let nothing : n - k ≡ 0 = omega (arith, done) in ap (λ (m : ℕ). grown_marks rows m marks) nothing

pub next_more : (rows : List (Vec Bool Global)) (marks next after : List Bool) (b : Bool) (i : ℕ) (d : Vec Bool Global) → i < length rows
    → next ≡ map (any_marked marks) (rows_of (take i rows)) → b ≡ any_marked marks (get_or rows i d).items → after ≡ next ++ b ∷ []
    → after ≡ map (any_marked marks) (rows_of (take (i + 1) rows))
next_more rows marks next after b i d below old is pushed =
    pushed ∙ (ap (λ (bs : List Bool). bs ++ b ∷ []) old
    ∙ (ap (λ (x : Bool). map (any_marked marks) (rows_of (take i rows)) ++ x ∷ []) is
    ∙ sym (ap (map (any_marked marks)) (map_more (λ (v : Vec Bool Global). v.items) rows i d below)
    ∙ map_push (any_marked marks) (rows_of (take i rows)) (get_or rows i d).items)))
  where
    map_push : (f : List Bool → Bool) (xs : List (List Bool)) (y : List Bool) → map f (xs ++ y ∷ []) ≡ map f xs ++ f y ∷ []
    map_push f [] y = refl
    map_push f (x ∷ xs) y = ap (λ (bs : List Bool). f x ∷ bs) (map_push f xs y)

pub marked_more : (whole group after : List LineId) (mark : Bool) (marks left_marks : List Bool) (line : LineId) (lines left_lines : List LineId)
    → whole ≡ group ++ marked left_marks left_lines → left_marks ≡ mark ∷ marks → left_lines ≡ line ∷ lines
    → after ≡ group ++ marked (mark ∷ []) (line ∷ []) → whole ≡ after ++ marked marks lines
marked_more whole group after mark marks left_marks line lines left_lines old is_marks is_lines pushed =
    old ∙ (ap (λ (ms : List Bool). group ++ marked ms left_lines) is_marks
    ∙ (ap (λ (ls : List LineId). group ++ marked (mark ∷ marks) ls) is_lines
    ∙ (by_test mark ∙ ap (λ (xs : List LineId). xs ++ marked marks lines) (sym pushed))))
  where
    by_test : (c : Bool) → group ++ (if c then line ∷ marked marks lines else marked marks lines) ≡ (group ++ (if c then line ∷ [] else [])) ++ marked marks lines
    by_test true = sym (append_assoc group (line ∷ []) (marked marks lines))
    by_test false = ap (λ (xs : List LineId). xs ++ marked marks lines) (sym (append-nil group))

not_none : (a : Bool) → not a ≡ false → a ≡ true
not_none true h = refl
not_none false h = absurd (true≢false h)

pub all_in : (lines group given : List LineId) (r : Bool) → r ≡ not (are_none (others lines given)) → r ≡ false → given ≡ group → group_if lines group ≡ None
all_in lines group given r is off same =
    let all : are_none (others lines given) ≡ true = not_none (are_none (others lines given)) (sym is ∙ off) in
    ap (λ (c : Bool). if c then None else Some group) (sym (ap (λ (g : List LineId). are_none (others lines g)) same) ∙ all)

pub rows_count : (rows given : List (Vec Bool Global)) (most : ℕ) (here : List Term) (e : SegId) (lines : List LineId) → given ≡ rows → rows_of rows ≡ held_rows most here e lines
    → length given ≡ length lines
rows_count rows given most here e lines same is =
    ap length same
    ∙ (sym (length-map rows (λ (v : Vec Bool Global). v.items)) ∙ (ap length is ∙ length-map lines (λ (b : LineId). map (is_held_by most here e b) lines)))
