-- Cells of terms: what is left in them, sums by number, and cells that are changed one by one.
use Rattle.std.proofs.Common.{◌≡◌, ℕ, zero, suc, ◌+◌, ◌<◌, ◌≤◌, ◌==◌, Bool, true, false, ◌||◌, Option, Some, None, List, [], ◌∷◌, ◌++◌, length, map, get_or, set, drop, take, refl, sym, ap, ◌∙◌, arith, eqb-true, eq-eqb, nat_lt}
use Rattle.std.specs.Prelude.{filter, if◌then◌else◌}
use Rattle.std.specs.List.{AllByRecursion, list_any, sum_by}
use Rattle.std.proofs.lemmas.Bool.{eqb-false, ltb-true, ltb-false}
use Rattle.std.proofs.lemmas.List.{get_or-set_same, get_or-set_other, get_or_past, set_past, length-set, length-map, ext_get_or, at_drop_more, at_drop_all, map_more, take_more}
use Rattle.std.proofs.lemmas.List.Sums.{sum_by-cons, sum_by-append}
use Rattle.map_base.specs.declared.ids.SegId.{SegId}
use Rattle.order_model.specs.declared.term.Term.{Term}
use Rattle.order_model.proofs.Lines.{neither}
use Rattle.order_rules.specs.PairWeights.{is_on}
use Rattle.order_untangle.specs.LeftTerms.{AreTermsOn, left, holds_on, cell_at, live, cells_sum, AreOf, changed}

-- What is left.

pub left_append : (cs ds : List (Option Term)) → left (cs ++ ds) ≡ left cs ++ left ds
left_append [] ds = refl
left_append (None ∷ cs) ds = left_append cs ds
left_append (Some t ∷ cs) ds = ap (λ (ts : List Term). t ∷ ts) (left_append cs ds)

pub left_more : (cs : List (Option Term)) (i : ℕ) (d : Option Term) → i < length cs → left (take (i + 1) cs) ≡ left (take i cs) ++ left (get_or cs i d ∷ [])
left_more cs i d h = ap left (take_more cs i d h) ∙ left_append (take i cs) (get_or cs i d ∷ [])

pub left_some : (ts : List Term) → left (map Some ts) ≡ ts
left_some [] = refl
left_some (t ∷ ts) = ap (λ (us : List Term). t ∷ us) (left_some ts)

pub live_more : (cs : List (Option Term)) (ns : List ℕ) (i : ℕ) (d : ℕ) → i < length ns → live cs (take (i + 1) ns) ≡ live cs (take i ns) ++ left (cell_at cs (get_or ns i d) ∷ [])
live_more cs ns i d h =
    ap left (map_more (cell_at cs) ns i d h) ∙ left_append (map (cell_at cs) (take i ns)) (cell_at cs (get_or ns i d) ∷ [])

left_few : (cs : List (Option Term)) → length (left cs) ≤ length cs
left_few [] = omega arith
left_few (None ∷ cs) = omega (arith, left_few cs)
left_few (Some t ∷ cs) = omega (arith, left_few cs)

-- Cells changed one by one.

pub cell_map : (f : Option Term → Option Term) → f None ≡ None → (cells : List (Option Term)) (n : ℕ) → cell_at (map f cells) n ≡ f (cell_at cells n)
cell_map f none [] n = sym none
cell_map f none (c ∷ cells) zero = refl
cell_map f none (c ∷ cells) (suc n) = cell_map f none cells n

changed_length : (f : Option Term → Option Term) (cells : List (Option Term)) (ns : List ℕ) → length (changed f cells ns) ≡ length cells
changed_length f cells [] = refl
changed_length f cells (n ∷ ns) = changed_length f (set cells n (f (cell_at cells n))) ns ∙ length-set cells n (f (cell_at cells n))

one_set : (f : Option Term → Option Term) → f None ≡ None → (cells : List (Option Term)) (n k : ℕ)
    → cell_at (set cells n (f (cell_at cells n))) k ≡ (if n == k then f (cell_at cells k) else cell_at cells k)
one_set f none cells n k = by_test (n == k) refl
  where
    at_past : (c : Bool) → nat_lt k (length cells) ≡ c → cell_at (set cells k (f (cell_at cells k))) k ≡ f (cell_at cells k)
    at_past true h = get_or-set_same cells k (f (cell_at cells k)) None (ltb-true k (length cells) h)
    at_past false h =
        let past : length cells ≤ k = ltb-false k (length cells) h in
        let was : cell_at cells k ≡ None = get_or_past cells k None past in
        ap (λ (cs : List (Option Term)). cell_at cs k) (set_past cells k (f (cell_at cells k)) past) ∙ (was ∙ (sym none ∙ ap f (sym was)))

    by_test : (c : Bool) → (n == k) ≡ c → cell_at (set cells n (f (cell_at cells n))) k ≡ (if c then f (cell_at cells k) else cell_at cells k)
    by_test true h = ap (λ (m : ℕ). cell_at (set cells m (f (cell_at cells m))) k) (eqb-true n k h) ∙ at_past (nat_lt k (length cells)) refl
    by_test false h = get_or-set_other cells n k (f (cell_at cells n)) None (λ e. eqb-false n k h (sym e))

pick : (f : Option Term → Option Term) (c d e : Option Term) (b a : Bool) → f (f c) ≡ f c → d ≡ (if b then f c else c) → e ≡ (if a then f d else d) → e ≡ (if b || a then f c else c)
pick f c d e true true same h k = k ∙ (ap f h ∙ same)
pick f c d e true false same h k = k ∙ h
pick f c d e false true same h k = k ∙ ap f h
pick f c d e false false same h k = k ∙ h

-- changed twice is changed once
abbrev pub IsOnce : (Option Term → Option Term) → List (Option Term) → Type 0
IsOnce f cells = (k : ℕ) → f (f (cell_at cells k)) ≡ f (cell_at cells k)

changed_at : (f : Option Term → Option Term) → f None ≡ None → (ns : List ℕ) (cells : List (Option Term)) → IsOnce f cells → (k : ℕ)
    → cell_at (changed f cells ns) k ≡ (if list_any (λ n. n == k) ns then f (cell_at cells k) else cell_at cells k)
changed_at f none [] cells once k = refl
changed_at f none (n ∷ ns) cells once k =
    pick f (cell_at cells k) (cell_at next k) (cell_at (changed f next ns) k) (n == k) (list_any (λ m. m == k) ns) (once k) (one_set f none cells n k)
    (changed_at f none ns next (λ j. still j (n == j) (one_set f none cells n j)) k)
  where
    next : List (Option Term)
    next = set cells n (f (cell_at cells n))

    still : (j : ℕ) (b : Bool) → cell_at next j ≡ (if b then f (cell_at cells j) else cell_at cells j) → f (f (cell_at next j)) ≡ f (cell_at next j)
    still j true h = ap (λ (c : Option Term). f (f c)) h ∙ (ap f (once j) ∙ ap f (sym h))
    still j false h = ap (λ (c : Option Term). f (f c)) h ∙ (once j ∙ ap f (sym h))

-- where what is not among the numbers is not changed, all cells are changed
pub changed_all : (f : Option Term → Option Term) → f None ≡ None → (ns : List ℕ) (cells : List (Option Term)) → IsOnce f cells
    → ((k : ℕ) → list_any (λ n. n == k) ns ≡ false → f (cell_at cells k) ≡ cell_at cells k) → changed f cells ns ≡ map f cells
changed_all f none ns cells once others =
    ext_get_or None (changed f cells ns) (map f cells) (changed_length f cells ns ∙ sym (length-map cells f))
    (λ k h. changed_at f none ns cells once k ∙ (by_test k (list_any (λ n. n == k) ns) refl ∙ sym (cell_map f none cells k)))
  where
    by_test : (k : ℕ) (c : Bool) → list_any (λ n. n == k) ns ≡ c → (if c then f (cell_at cells k) else cell_at cells k) ≡ f (cell_at cells k)
    by_test k true h = refl
    by_test k false h = sym (others k h)

pub changed_step : (f : Option Term → Option Term) (cells after : List (Option Term)) (ns : List ℕ) (i n : ℕ) → i < length ns → n ≡ get_or ns i n
    → after ≡ set cells n (f (cell_at cells n)) → changed f after (drop (i + 1) ns) ≡ changed f cells (drop i ns)
changed_step f cells after ns i n below is made =
    ap (λ (cs : List (Option Term)). changed f cs (drop (i + 1) ns)) made
    ∙ sym (at_drop_more (changed f cells) ns i n below ∙ ap (λ (m : ℕ). changed f cells (m ∷ drop (i + 1) ns)) (sym is))

pub changed_done : (f : Option Term → Option Term) (cells : List (Option Term)) (ns : List ℕ) (i : ℕ) → length ns ≤ i → changed f cells (drop i ns) ≡ cells
changed_done f cells ns i h = at_drop_all (changed f cells) ns i h

-- Sums.

sum_alike : {A : Type 0} (f g : A → ℕ) (xs : List A) → ((x : A) → f x ≡ g x) → sum_by f xs ≡ sum_by g xs
sum_alike f g [] h = refl
sum_alike f g (x ∷ xs) h = omega (arith, sum_by-cons f x xs, sum_by-cons g x xs, h x, sum_alike f g xs h)

sum_filter : (p : ℕ → Bool) (f : ℕ → ℕ) (ns : List ℕ) → sum_by f (filter p ns) ≡ sum_by (λ n. if p n then f n else 0) ns
sum_filter p f [] = refl
sum_filter p f (n ∷ ns) = by_test (p n) refl (sum_filter p f ns)
  where
    by_test : (c : Bool) → p n ≡ c → sum_by f (filter p ns) ≡ sum_by (λ m. if p m then f m else 0) ns
        → sum_by f (if c then n ∷ filter p ns else filter p ns) ≡ sum_by (λ m. if p m then f m else 0) (n ∷ ns)
    by_test true h rest =
        let here : (if p n then f n else 0) ≡ f n = ap (λ (b : Bool). if b then f n else 0) h in
        omega (arith, sum_by-cons f n (filter p ns), sum_by-cons (λ m. if p m then f m else 0) n ns, rest, here)
    by_test false h rest =
        let here : (if p n then f n else 0) ≡ 0 = ap (λ (b : Bool). if b then f n else 0) h in
        omega (arith, sum_by-cons (λ m. if p m then f m else 0) n ns, rest, here)

sum_map : (g : Option Term → ℕ) (f : ℕ → Option Term) (ns : List ℕ) → sum_by g (map f ns) ≡ sum_by (λ n. g (f n)) ns
sum_map g f [] = refl
sum_map g f (n ∷ ns) = omega (arith, sum_by-cons g (f n) (map f ns), sum_by-cons (λ m. g (f m)) n ns, sum_map g f ns)

cells_map : (f : Option Term → Option Term) (h : ℕ → Option Term → ℕ) (k : ℕ) (cells : List (Option Term)) → cells_sum h k (map f cells) ≡ cells_sum (λ n c. h n (f c)) k cells
cells_map f h k [] = refl
cells_map f h k (c ∷ cells) = ap (λ (m : ℕ). h k (f c) + m) (cells_map f h (k + 1) cells)

pub cells_alike : (P : Option Term → Type 0) (a b : ℕ → Option Term → ℕ) (k : ℕ) (cells : List (Option Term)) → AllByRecursion P cells
    → ((n : ℕ) (c : Option Term) → P c → a n c ≡ b n c) → cells_sum a k cells ≡ cells_sum b k cells
cells_alike P a b k [] all h = refl
cells_alike P a b k (c ∷ cells) all h = omega (arith, h k c all.0, cells_alike P a b (k + 1) cells all.1 h)

cells_add : (a b : ℕ → Option Term → ℕ) (k : ℕ) (cells : List (Option Term)) → cells_sum a k cells + cells_sum b k cells ≡ cells_sum (λ n c. a n c + b n c) k cells
cells_add a b k [] = refl
cells_add a b k (c ∷ cells) = omega (arith, cells_add a b (k + 1) cells)

cells_none : (h : ℕ → Option Term → ℕ) (k : ℕ) (cells : List (Option Term)) → cells_sum h k cells ≡ 0 → (n : ℕ) → n < length cells → h (k + n) (cell_at cells n) ≡ 0
cells_none h k [] e n below = absurd (omega (arith, below))
cells_none h k (c ∷ cells) e zero below =
    let same : k + zero ≡ k = omega arith in
    ap (λ (m : ℕ). h m c) same ∙ omega (arith, e)
cells_none h k (c ∷ cells) e (suc n) below =
    let same : k + suc n ≡ (k + 1) + n = omega arith in
    ap (λ (m : ℕ). h m (cell_at cells n)) same ∙ cells_none h (k + 1) cells (omega (arith, e)) n (omega (arith, below))

pub cells_more : (h : ℕ → Option Term → ℕ) (k : ℕ) (cells : List (Option Term)) (i : ℕ) → i < length cells → cells_sum h k (take (i + 1) cells) ≡ cells_sum h k (take i cells) + h (k + i) (cell_at cells i)
cells_more h k [] i below = absurd (omega (arith, below))
cells_more h k (c ∷ cells) zero below =
    let same : k + zero ≡ k = omega arith in
    omega (arith, ap (λ (m : ℕ). h m c) same)
cells_more h k (c ∷ cells) (suc i) below =
    let same : k + suc i ≡ (k + 1) + i = omega arith in
    let front : suc i + 1 ≡ suc (i + 1) = omega arith in
    ap (λ (m : ℕ). cells_sum h k (take m (c ∷ cells))) front
    ∙ omega (arith, cells_more h (k + 1) cells i (omega (arith, below)), ap (λ (m : ℕ). h m (cell_at cells i)) same)

-- What is summed over the terms.

val : (Term → ℕ) → Option Term → ℕ
val g None = 0
val g (Some t) = g t

val_sum : (g : Term → ℕ) (cs : List (Option Term)) → sum_by g (left cs) ≡ sum_by (val g) cs
unfolding val
val_sum g [] = refl
val_sum g (None ∷ cs) = omega (arith, sum_by-cons (val g) None cs, val_sum g cs)
val_sum g (Some t ∷ cs) = omega (arith, sum_by-cons g t (left cs), sum_by-cons (val g) (Some t) cs, val_sum g cs)

val_cells : (g : Term → ℕ) (s : SegId) (k : ℕ) (cells : List (Option Term))
    → cells_sum (λ n c. if holds_on s c then val g c else 0) k cells ≡ sum_by (λ t. if is_on s t then g t else 0) (left cells)
unfolding val
val_cells g s k [] = refl
val_cells g s k (None ∷ cells) = omega (arith, val_cells g s (k + 1) cells)
val_cells g s k (Some t ∷ cells) = omega (arith, val_cells g s (k + 1) cells, sum_by-cons (λ u. if is_on s u then g u else 0) t (left cells))

ones : {A : Type 0} (xs : List A) → sum_by (λ x. 1) xs ≡ length xs
ones [] = refl
ones (x ∷ xs) = omega (arith, sum_by-cons (λ y. 1) x xs, ones xs)

at_most_one : (s : SegId) (ts : List Term) → sum_by (λ t. if is_on s t then 1 else 0) ts ≤ length ts
at_most_one s [] = omega arith
at_most_one s (t ∷ ts) = omega (arith, sum_by-cons (λ u. if is_on s u then 1 else 0) t ts, at_most_one s ts, small (is_on s t))
  where
    small : (c : Bool) → (if c then 1 else 0) ≤ 1
    small true = omega arith
    small false = omega arith

pub live_are : (cells : List (Option Term)) (s : SegId) (ns : List ℕ) → length cells ≤ 4000000 → AreOf cells s ns → AreTermsOn s (left cells) (live cells ns)
unfolding val
live_are cells s ns few are = record {
  sums = sums;
  few = omega (arith, few, left_few cells, at_most_one s (left cells), ones (live cells ns), sums (λ t. 1));
}
  where
    sums : (g : Term → ℕ) → sum_by g (live cells ns) ≡ sum_by (λ t. if is_on s t then g t else 0) (left cells)
    sums g =
        val_sum g (map (cell_at cells) ns)
        ∙ (sum_map (val g) (cell_at cells) ns ∙ (are.sums (λ n c. val g c) (λ n. refl) ∙ val_cells g s 0 cells))

-- numbers of cells that hold no term of the segment are forgotten

twice : (b : Bool) (m : ℕ) → (if b then (if b then m else 0) else 0) ≡ (if b then m else 0)
twice true m = refl
twice false m = refl

pub own_of : (P : Option Term → Type 0) (cells : List (Option Term)) → AllByRecursion P cells → (s : SegId) (ns : List ℕ) → AreOf cells s ns
    → AreOf cells s (filter (λ n. holds_on s (cell_at cells n)) ns)
own_of P cells all s ns are = record {
  sums = λ h zero_h.
      sum_filter (λ n. holds_on s (cell_at cells n)) (λ n. h n (cell_at cells n)) ns
      ∙ (are.sums (λ n c. if holds_on s c then h n c else 0) (λ n. refl)
      ∙ cells_alike P (λ n c. if holds_on s c then (if holds_on s c then h n c else 0) else 0) (λ n c. if holds_on s c then h n c else 0) 0 cells all
      (λ n c fits. twice (holds_on s c) (h n c)));
}

-- Numbers that are not listed.

mark : Option Term → ℕ
mark None = 0
mark (Some t) = 1

none_summed : (g : ℕ → ℕ) (k : ℕ) (ns : List ℕ) → list_any (λ n. n == k) ns ≡ false → sum_by (λ n. if n == k then g n else 0) ns ≡ 0
none_summed g k [] h = refl
none_summed g k (n ∷ ns) h =
    let parts = neither (n == k) (list_any (λ m. m == k) ns) h in
    let here : (if n == k then g n else 0) ≡ 0 = ap (λ (b : Bool). if b then g n else 0) parts.0 in
    omega (arith, sum_by-cons (λ m. if m == k then g m else 0) n ns, here, none_summed g k ns parts.1)

either_none : (b : Bool) (m : ℕ) → m ≡ 0 → (if b then m else 0) ≡ 0
either_none true m h = h
either_none false m h = refl

pub not_listed : (cells : List (Option Term)) (s : SegId) (ns : List ℕ) → AreOf cells s ns → (k : ℕ) → list_any (λ n. n == k) ns ≡ false → holds_on s (cell_at cells k) ≡ false
unfolding mark
not_listed cells s ns are k out = by_place (nat_lt k (length cells)) refl
  where
    test : ℕ → Option Term → ℕ
    test n c = if n == k then mark c else 0

    last : (m : ℕ) → m ≡ k → (c : Option Term) → (if holds_on s c then (if m == k then mark c else 0) else 0) ≡ 0 → holds_on s c ≡ false
    last m same None e = refl
    last m same (Some t) e = by_test (is_on s t) refl e
      where
        by_test : (b : Bool) → is_on s t ≡ b → (if b then (if m == k then mark (Some t) else 0) else 0) ≡ 0 → b ≡ false
        by_test true h e =
            let here : (if m == k then mark (Some t) else 0) ≡ mark (Some t) = ap (λ (b : Bool). if b then mark (Some t) else 0) (eq-eqb m k same) in
            absurd (omega (arith, e, here))
        by_test false h e = refl

    total : cells_sum (λ n c. if holds_on s c then (if n == k then mark c else 0) else 0) 0 cells ≡ 0
    total =
        sym (are.sums (λ n c. if n == k then mark c else 0) (λ n. either_none (n == k) 0 refl))
        ∙ none_summed (λ n. mark (cell_at cells n)) k ns out

    by_place : (c : Bool) → nat_lt k (length cells) ≡ c → holds_on s (cell_at cells k) ≡ false
    by_place true h =
        last (0 + k) (omega arith) (cell_at cells k)
        (cells_none (λ n c. if holds_on s c then (if n == k then mark c else 0) else 0) 0 cells total k (ltb-true k (length cells) h))
    by_place false h = ap (holds_on s) (get_or_past cells k None (ltb-false k (length cells) h))

-- The numbers of a segment after all cells were changed.

module _ (f : Option Term → Option Term) (none : f None ≡ None) (P : Option Term → Type 0) (cells : List (Option Term)) (all : AllByRecursion P cells) where
  -- the numbers as they were
  abbrev pub WasSum : SegId → (ℕ → Option Term → ℕ) → ℕ → Option Term → ℕ
  WasSum s h n c = if holds_on s c then h n (f c) else 0

  -- those of them whose cells now hold a term of another segment
  abbrev pub KeptSum : SegId → SegId → (ℕ → Option Term → ℕ) → ℕ → Option Term → ℕ
  KeptSum s r h n c = if holds_on s c then (if holds_on r (f c) then h n (f c) else 0) else 0

  -- what is to come out
  abbrev pub NowSum : SegId → (ℕ → Option Term → ℕ) → ℕ → Option Term → ℕ
  NowSum s h n c = if holds_on s (f c) then h n (f c) else 0

  was_sum : (s : SegId) (ns : List ℕ) → AreOf cells s ns → (h : ℕ → Option Term → ℕ) → ((n : ℕ) → h n None ≡ 0)
      → sum_by (λ n. h n (cell_at (map f cells) n)) ns ≡ cells_sum (WasSum s h) 0 cells
  was_sum s ns are h zero_h =
      sum_alike (λ n. h n (cell_at (map f cells) n)) (λ n. h n (f (cell_at cells n))) ns (λ n. ap (h n) (cell_map f none cells n))
      ∙ are.sums (λ n c. h n (f c)) (λ n. ap (h n) none ∙ zero_h n)

  kept_sum : (s r : SegId) (ns : List ℕ) → AreOf cells s ns → (h : ℕ → Option Term → ℕ)
      → sum_by (λ n. h n (cell_at (map f cells) n)) (filter (λ n. holds_on r (cell_at (map f cells) n)) ns) ≡ cells_sum (KeptSum s r h) 0 cells
  kept_sum s r ns are h =
      sum_filter (λ n. holds_on r (cell_at (map f cells) n)) (λ n. h n (cell_at (map f cells) n)) ns
      ∙ (sum_alike (λ n. if holds_on r (cell_at (map f cells) n) then h n (cell_at (map f cells) n) else 0) (λ n. if holds_on r (f (cell_at cells n)) then h n (f (cell_at cells n)) else 0) ns
      (λ n. ap (λ (c : Option Term). if holds_on r c then h n c else 0) (cell_map f none cells n))
      ∙ are.sums (λ n c. if holds_on r (f c) then h n (f c) else 0) (λ n. ap (λ (c : Option Term). if holds_on r c then h n c else 0) none))

  -- a segment keeps its numbers
  pub still_of : (s : SegId) (ns : List ℕ) → AreOf cells s ns
      → ((h : ℕ → Option Term → ℕ) → ((n : ℕ) → h n None ≡ 0) → (n : ℕ) (c : Option Term) → P c → WasSum s h n c ≡ NowSum s h n c) → AreOf (map f cells) s ns
  still_of s ns are same = record {
    sums = λ h zero_h.
        was_sum s ns are h zero_h
        ∙ (cells_alike P (WasSum s h) (NowSum s h) 0 cells all (same h zero_h) ∙ sym (cells_map f (λ n c. if holds_on s c then h n c else 0) 0 cells));
  }

  -- a segment gets those numbers of another that are now its own
  pub kept_of : (s r : SegId) (ns : List ℕ) → AreOf cells s ns
      → ((h : ℕ → Option Term → ℕ) (n : ℕ) (c : Option Term) → P c → KeptSum s r h n c ≡ NowSum r h n c)
      → AreOf (map f cells) r (filter (λ n. holds_on r (cell_at (map f cells) n)) ns)
  kept_of s r ns are same = record {
    sums = λ h zero_h.
        kept_sum s r ns are h
        ∙ (cells_alike P (KeptSum s r h) (NowSum r h) 0 cells all (same h) ∙ sym (cells_map f (λ n c. if holds_on r c then h n c else 0) 0 cells));
  }

  -- a segment has no number left
  pub none_of : (s : SegId) → ((c : Option Term) → P c → holds_on s (f c) ≡ false) → AreOf (map f cells) s []
  none_of s off = record {
    sums = λ h zero_h.
        sym (cells_map f (λ n c. if holds_on s c then h n c else 0) 0 cells
        ∙ (cells_alike P (NowSum s h) (λ n c. 0) 0 cells all (λ n c p. ap (λ (b : Bool). if b then h n (f c) else 0) (off c p)) ∙ zeros 0 cells));
  }
    where
      zeros : (k : ℕ) (cs : List (Option Term)) → cells_sum (λ n c. 0) k cs ≡ 0
      zeros k [] = refl
      zeros k (c ∷ cs) = omega (arith, zeros (k + 1) cs)

  -- a segment keeps its numbers and gets some of another
  pub joined_of : (s r : SegId) (ns ms : List ℕ) → AreOf cells s ns → AreOf cells r ms
      → ((h : ℕ → Option Term → ℕ) → ((n : ℕ) → h n None ≡ 0) → (n : ℕ) (c : Option Term) → P c → WasSum r h n c + KeptSum s r h n c ≡ NowSum r h n c)
      → AreOf (map f cells) r (ms ++ filter (λ n. holds_on r (cell_at (map f cells) n)) ns)
  joined_of s r ns ms are own same = record {
    sums = λ h zero_h.
        let both : sum_by (λ n. h n (cell_at (map f cells) n)) (ms ++ filter (λ n. holds_on r (cell_at (map f cells) n)) ns)
        ≡ sum_by (λ n. h n (cell_at (map f cells) n)) ms + sum_by (λ n. h n (cell_at (map f cells) n)) (filter (λ n. holds_on r (cell_at (map f cells) n)) ns) =
        sum_by-append (λ n. h n (cell_at (map f cells) n)) ms (filter (λ n. holds_on r (cell_at (map f cells) n)) ns) in
        omega (arith, both, was_sum r ms own h zero_h, kept_sum s r ns are h, cells_add (WasSum r h) (KeptSum s r h) 0 cells)
        ∙ (cells_alike P (λ n c. WasSum r h n c + KeptSum s r h n c) (NowSum r h) 0 cells all (same h zero_h) ∙ sym (cells_map f (λ n c. if holds_on r c then h n c else 0) 0 cells));
  }
