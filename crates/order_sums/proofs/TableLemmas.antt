-- A table of sums by place: what a term adds to it, and what is read of it.
use Rattle.std.proofs.Common.{◌≡◌, ◌≢◌, ℕ, zero, suc, ◌+◌, ◌<◌, ◌≤◌, ◌==◌, Bool, true, false, cond, ◌||◌, ◌&&◌, Some, None, List, [], ◌∷◌, length, get_or, set, take, refl, sym, ap, ◌∙◌, arith, inl, inr, true≢false, eqb-true, eq-eqb, Err}
use Rattle.std.specs.Prelude.{if◌then◌else◌, Vec, replicate}
use Rattle.std.specs.Global.{Global}
use Rattle.std.proofs.lemmas.List.{get_or-set_same, get_or-set_other, get_or-map, get_or-replicate, length-map, length-replicate, length-set, map-set}
use Rattle.std.specs.Ordering.{nat_cmp, ordering_index, is_lt}
use Rattle.std.specs.declared.cmp.Ordering.TheVariants.{Less, Equal, Greater}
use Rattle.std.specs.Cmp.{nat_cmp_total}
use Rattle.std.specs.List.Sorted.{IsSortedBy, IsNonDecreasingBy, IsBinarySearchResult}
use Rattle.std.proofs.lemmas.Bool.{cases_lt, le-ltb, eqb-false}
use Rattle.std.proofs.lemmas.Cmp.{ranked}
use Rattle.std.proofs.lemmas.List.Sorted.{searchable_from_sorted}
use Rattle.map_base.specs.declared.ids.SegId.{SegId}
use Rattle.map_base.specs.declared.ids.LineId.{LineId}
use Rattle.graph_core.specs.Consistent.{AreRising}
use Rattle.order_model.specs.declared.term.Term.{Term}
use Rattle.order_model.specs.Costs.{are_these}
use Rattle.order_model.proofs.Lines.{both_true, same_line}
use Rattle.order_model.proofs.PlaceLemmas.{rising_by}
use Rattle.order_sums.specs.declared.pair_sums.PairSums.{PairSums}
use Rattle.order_sums.specs.PairSums.{no_sums, pair_sums, with_sum}
use Rattle.order_sums.specs.PairTables.{line_at, sums_at, lists_of, AreSized, IsTable, with_pair, IsPlace, AreLinesOf}
use Rattle.order_sums.proofs.SumLemmas.{sums_more}

-- Places.

-- two lines at places are the same where the places are
same_place : (lines : List LineId) (i j : ℕ) → AreRising lines → i < length lines → j < length lines → (line_at lines i).0 ≡ (line_at lines j).0 → i ≡ j
same_place lines i j rising i_below j_below same = elim (cases_lt i j) [
  | inl less ↦ (let up = rising_by lines i j rising (omega (arith, less)) j_below in absurd (omega (arith, up, same, less)))
  | inr not_less ↦ elim (cases_lt j i) [
    | inl less ↦ (let up = rising_by lines j i rising (omega (arith, less)) i_below in absurd (omega (arith, up, same, less)))
    | inr also ↦ omega (arith, not_less, also)
  ]
]

-- The search by halving.

any_default : {A : Type 0} (xs : List A) (k : ℕ) (d e : A) → k < length xs → get_or xs k d ≡ get_or xs k e
any_default [] k d e below = absurd (omega (arith, below))
any_default (x ∷ xs) zero d e below = refl
any_default (x ∷ xs) (suc k) d e below = any_default xs k d e (omega (arith, below))

not_lt : (x y : ℕ) → y ≤ x → is_lt (nat_cmp x y) ≡ false
not_lt x y least = ap (λ b. is_lt (cond b Less (cond (x == y) Equal Greater))) (le-ltb x y least) ∙ by_test (x == y)
  where
    by_test : (b : Bool) → is_lt (cond b Equal Greater) ≡ false
    by_test true = refl
    by_test false = refl

sorted : (lines : List LineId) → AreRising lines → IsSortedBy (λ (a b : LineId). is_lt (nat_cmp a.0 b.0)) lines
sorted lines rising k d low below =
    not_lt (get_or lines (k + 1) d).0 (get_or lines k d).0
    (omega (
      arith,
      rising_by lines k (k + 1) rising (omega arith) below,
      ap (λ (l : LineId). l.0) (any_default lines k d (record { 0 = 0 }) (omega (arith, below))),
      ap (λ (l : LineId). l.0) (any_default lines (k + 1) d (record { 0 = 0 }) below),
    ))

searchable : (lines : List LineId) (a : LineId) → AreRising lines → IsNonDecreasingBy (λ (y : LineId). ordering_index (nat_cmp y.0 a.0)) lines
searchable lines a rising = searchable_from_sorted nat_cmp_total (λ (y : LineId). y.0) lines a.0 (sorted lines rising)

pub not_met : (lines : List LineId) (a : LineId) (k : ℕ) → AreRising lines → IsBinarySearchResult (λ (y : LineId). nat_cmp y.0 a.0) lines (Err k) → IsPlace lines a None
not_met lines a k rising found i below here =
    let gap = found (searchable lines a rising) in
    elim (cases_lt i k) [
      | inl before ↦ (let less = ranked (line_at lines i).0 a.0 Less (sym (gap.0 i (record { 0 = 0 }) (omega arith) before)) in omega (arith, less, here))
      | inr after ↦ (let more = ranked (line_at lines i).0 a.0 Greater (sym (gap.1 i (record { 0 = 0 }) after below)) in omega (arith, more, here))
    ]

-- One cell is written.

-- sums with one cell written
abbrev with_cell : (LineId → LineId → PairSums) → LineId → LineId → PairSums → LineId → LineId → PairSums
with_cell w x y s a b = if x.0 == a.0 && y.0 == b.0 then s else w a b

set_sized : (lines : List LineId) (table : List (List PairSums)) (p q : ℕ) (s : PairSums) → AreSized lines table → p < length lines
    → AreSized lines (set table p (set (get_or table p []) q s))
set_sized lines table p q s sized below = record {
  count = length-set table p (set (get_or table p []) q s) ∙ sized.count;
  widths = λ i i_below. by_place i i_below (i == p) refl;
}
  where
    by_place : (i : ℕ) → i < length lines → (c : Bool) → (i == p) ≡ c → length (get_or (set table p (set (get_or table p []) q s)) i []) ≡ length lines
    by_place i i_below true h =
        let here : i ≡ p = eqb-true i p h in
        let known : p < length table = omega (arith, below, sized.count) in
        ap (λ (k : ℕ). length (get_or (set table p (set (get_or table p []) q s)) k [])) here
        ∙ (ap length (get_or-set_same table p (set (get_or table p []) q s) [] known) ∙ (length-set (get_or table p []) q s ∙ sized.widths p below))
    by_place i i_below false h =
        ap length (get_or-set_other table p i (set (get_or table p []) q s) [] (eqb-false i p h)) ∙ sized.widths i i_below

cell_here : (lines : List LineId) (table : List (List PairSums)) (p q : ℕ) (s : PairSums) → AreSized lines table → p < length lines → q < length lines
    → sums_at (set table p (set (get_or table p []) q s)) p q ≡ s
cell_here lines table p q s sized p_below q_below =
    let known : p < length table = omega (arith, p_below, sized.count) in
    let cell : q < length (get_or table p []) = omega (arith, q_below, sized.widths p p_below) in
    ap (λ (row : List PairSums). get_or row q no_sums) (get_or-set_same table p (set (get_or table p []) q s) [] known)
    ∙ get_or-set_same (get_or table p []) q s no_sums cell

cell_elsewhere : (lines : List LineId) (table : List (List PairSums)) (p q i j : ℕ) (s : PairSums) → AreSized lines table → p < length lines → ((i ≡ p) → (j ≡ q) → ⊥)
    → sums_at (set table p (set (get_or table p []) q s)) i j ≡ sums_at table i j
cell_elsewhere lines table p q i j s sized below away = by_place (i == p) refl
  where
    by_place : (c : Bool) → (i == p) ≡ c → sums_at (set table p (set (get_or table p []) q s)) i j ≡ sums_at table i j
    by_place true h =
        let here : i ≡ p = eqb-true i p h in
        let known : p < length table = omega (arith, below, sized.count) in
        let other : j ≢ q = λ same. away here same in
        ap (λ (k : ℕ). sums_at (set table p (set (get_or table p []) q s)) k j) here
        ∙ (ap (λ (row : List PairSums). get_or row j no_sums) (get_or-set_same table p (set (get_or table p []) q s) [] known)
        ∙ (get_or-set_other (get_or table p []) q j s no_sums other ∙ ap (λ (k : ℕ). sums_at table k j) (sym here)))
    by_place false h =
        ap (λ (row : List PairSums). get_or row j no_sums) (get_or-set_other table p i (set (get_or table p []) q s) [] (eqb-false i p h))

put_table : (w : LineId → LineId → PairSums) (lines : List LineId) (table : List (List PairSums)) (p q : ℕ) (s : PairSums) → AreRising lines → p < length lines → q < length lines
    → IsTable w lines table → IsTable (with_cell w (line_at lines p) (line_at lines q) s) lines (set table p (set (get_or table p []) q s))
put_table w lines table p q s rising p_below q_below is = record {
  sized = set_sized lines table p q s is.sized p_below;
  sums = λ i j i_below j_below. by_cell i j i_below j_below ((line_at lines p).0 == (line_at lines i).0) ((line_at lines q).0 == (line_at lines j).0) refl refl;
}
  where
    new : List (List PairSums)
    new = set table p (set (get_or table p []) q s)

    by_cell : (i j : ℕ) → i < length lines → j < length lines → (c d : Bool) → ((line_at lines p).0 == (line_at lines i).0) ≡ c → ((line_at lines q).0 == (line_at lines j).0) ≡ d
        → sums_at new i j ≡ with_cell w (line_at lines p) (line_at lines q) s (line_at lines i) (line_at lines j)
    by_cell i j i_below j_below true true h k =
        let row : p ≡ i = same_place lines p i rising p_below i_below (eqb-true (line_at lines p).0 (line_at lines i).0 h) in
        let cell : q ≡ j = same_place lines q j rising q_below j_below (eqb-true (line_at lines q).0 (line_at lines j).0 k) in
        ap (λ (x : ℕ). sums_at new x j) (sym row) ∙ (ap (sums_at new p) (sym cell) ∙ (cell_here lines table p q s is.sized p_below q_below
        ∙ sym (ap (λ (b : Bool). if b && ((line_at lines q).0 == (line_at lines j).0) then s else w (line_at lines i) (line_at lines j)) h
        ∙ ap (λ (b : Bool). if b then s else w (line_at lines i) (line_at lines j)) k)))
    by_cell i j i_below j_below true false h k =
        cell_elsewhere lines table p q i j s is.sized p_below (λ row cell. true≢false (sym (eq-eqb (line_at lines q).0 (line_at lines j).0 (ap (λ (x : ℕ). (line_at lines x).0) (sym cell))) ∙ k))
        ∙ (is.sums i j i_below j_below
        ∙ sym (ap (λ (b : Bool). if b && ((line_at lines q).0 == (line_at lines j).0) then s else w (line_at lines i) (line_at lines j)) h
        ∙ ap (λ (b : Bool). if b then s else w (line_at lines i) (line_at lines j)) k))
    by_cell i j i_below j_below false d h k =
        cell_elsewhere lines table p q i j s is.sized p_below (λ row cell. true≢false (sym (eq-eqb (line_at lines p).0 (line_at lines i).0 (ap (λ (x : ℕ). (line_at lines x).0) (sym row))) ∙ h))
        ∙ (is.sums i j i_below j_below
        ∙ sym (ap (λ (b : Bool). if b && ((line_at lines q).0 == (line_at lines j).0) then s else w (line_at lines i) (line_at lines j)) h))

-- sums that agree at the lines
table_alike : (v w : LineId → LineId → PairSums) (lines : List LineId) (table : List (List PairSums))
    → ((i j : ℕ) → i < length lines → j < length lines → v (line_at lines i) (line_at lines j) ≡ w (line_at lines i) (line_at lines j)) → IsTable v lines table → IsTable w lines table
table_alike v w lines table same is = record { sized = is.sized; sums = λ i j i_below j_below. is.sums i j i_below j_below ∙ same i j i_below j_below }

-- A term is added.

module _ (w : LineId → LineId → PairSums) (e f : SegId) (t : Term) (x y : LineId) (of : AreLinesOf t x y) where
  cells : LineId → LineId → PairSums
  cells = with_cell (with_cell w x y (with_sum (w x y) e f x y t)) y x (with_sum (w y x) e f y x t)

  -- the two cells are those of the term's lines
  cells_are : (a b : LineId) → cells a b ≡ with_pair w e f t a b
  unfolding cells
  cells_are a b =
      by_cells (x.0 == a.0 && y.0 == b.0) (y.0 == a.0 && x.0 == b.0) refl refl
      ∙ ap (λ (c : Bool). if c then with_sum (w a b) e f a b t else w a b) (ap (λ (c : Bool). (x.0 == a.0 && y.0 == b.0) || c) (turned (y.0 == a.0) (x.0 == b.0)) ∙ sym (of a b))
    where
      turned : (c d : Bool) → (c && d) ≡ (d && c)
      turned true true = refl
      turned true false = refl
      turned false true = refl
      turned false false = refl

      moved : (u v : LineId) → (u.0 == a.0) ≡ true → (v.0 == b.0) ≡ true → with_sum (w u v) e f u v t ≡ with_sum (w a b) e f a b t
      moved u v h k =
          ap (λ (z : LineId). with_sum (w z v) e f z v t) (same_line u a h) ∙ ap (λ (z : LineId). with_sum (w a z) e f a z t) (same_line v b k)

      by_cells : (c d : Bool) → (x.0 == a.0 && y.0 == b.0) ≡ c → (y.0 == a.0 && x.0 == b.0) ≡ d
          → cells a b ≡ (if (x.0 == a.0 && y.0 == b.0) || (y.0 == a.0 && x.0 == b.0) then with_sum (w a b) e f a b t else w a b)
      by_cells c true h k =
          let parts = both_true (y.0 == a.0) (x.0 == b.0) k in
          ap (λ (z : Bool). if z then with_sum (w y x) e f y x t else with_cell w x y (with_sum (w x y) e f x y t) a b) k
          ∙ (moved y x parts.0 parts.1
          ∙ sym (ap (λ (z : Bool). if (x.0 == a.0 && y.0 == b.0) || z then with_sum (w a b) e f a b t else w a b) k
          ∙ ap (λ (z : Bool). if z || true then with_sum (w a b) e f a b t else w a b) h
          ∙ either_way c))
        where
          either_way : (z : Bool) → (if z || true then with_sum (w a b) e f a b t else w a b) ≡ with_sum (w a b) e f a b t
          either_way true = refl
          either_way false = refl
      by_cells true false h k =
          let parts = both_true (x.0 == a.0) (y.0 == b.0) h in
          ap (λ (z : Bool). if z then with_sum (w y x) e f y x t else with_cell w x y (with_sum (w x y) e f x y t) a b) k
          ∙ (ap (λ (z : Bool). if z then with_sum (w x y) e f x y t else w a b) h
          ∙ (moved x y parts.0 parts.1
          ∙ sym (ap (λ (z : Bool). if z || (y.0 == a.0 && x.0 == b.0) then with_sum (w a b) e f a b t else w a b) h)))
      by_cells false false h k =
          ap (λ (z : Bool). if z then with_sum (w y x) e f y x t else with_cell w x y (with_sum (w x y) e f x y t) a b) k
          ∙ (ap (λ (z : Bool). if z then with_sum (w x y) e f x y t else w a b) h
          ∙ sym (ap (λ (z : Bool). if z || (y.0 == a.0 && x.0 == b.0) then with_sum (w a b) e f a b t else w a b) h
          ∙ ap (λ (z : Bool). if z then with_sum (w a b) e f a b t else w a b) k))

  -- one of the two is no line of these
  off_first : (lines : List LineId) → IsPlace lines x None → (i j : ℕ) → i < length lines → j < length lines → with_pair w e f t (line_at lines i) (line_at lines j) ≡ w (line_at lines i) (line_at lines j)
  off_first lines off i j i_below j_below =
      ap (λ (c : Bool). if c then with_sum (w (line_at lines i) (line_at lines j)) e f (line_at lines i) (line_at lines j) t else w (line_at lines i) (line_at lines j))
      (of (line_at lines i) (line_at lines j) ∙ none)
    where
      not_at : (k : ℕ) → k < length lines → (x.0 == (line_at lines k).0) ≡ false
      not_at k below = by_test (x.0 == (line_at lines k).0) refl
        where
          by_test : (c : Bool) → (x.0 == (line_at lines k).0) ≡ c → c ≡ false
          by_test true h = absurd (off k below (sym (eqb-true x.0 (line_at lines k).0 h)))
          by_test false h = refl

      none : are_these x y (line_at lines i) (line_at lines j) ≡ false
      none =
          ap (λ (c : Bool). (c && y.0 == (line_at lines j).0) || (x.0 == (line_at lines j).0 && y.0 == (line_at lines i).0)) (not_at i i_below)
          ∙ ap (λ (c : Bool). c && y.0 == (line_at lines i).0) (not_at j j_below)

  off_second : (lines : List LineId) → IsPlace lines y None → (i j : ℕ) → i < length lines → j < length lines → with_pair w e f t (line_at lines i) (line_at lines j) ≡ w (line_at lines i) (line_at lines j)
  off_second lines off i j i_below j_below =
      ap (λ (c : Bool). if c then with_sum (w (line_at lines i) (line_at lines j)) e f (line_at lines i) (line_at lines j) t else w (line_at lines i) (line_at lines j))
      (of (line_at lines i) (line_at lines j) ∙ none)
    where
      not_at : (k : ℕ) → k < length lines → (y.0 == (line_at lines k).0) ≡ false
      not_at k below = by_test (y.0 == (line_at lines k).0) refl
        where
          by_test : (c : Bool) → (y.0 == (line_at lines k).0) ≡ c → c ≡ false
          by_test true h = absurd (off k below (sym (eqb-true y.0 (line_at lines k).0 h)))
          by_test false h = refl

      and_none : (c : Bool) → (c && false) ≡ false
      and_none true = refl
      and_none false = refl

      none : are_these x y (line_at lines i) (line_at lines j) ≡ false
      none =
          ap (λ (c : Bool). (x.0 == (line_at lines i).0 && c) || (x.0 == (line_at lines j).0 && y.0 == (line_at lines i).0)) (not_at j j_below)
          ∙ (ap (λ (c : Bool). c || (x.0 == (line_at lines j).0 && y.0 == (line_at lines i).0)) (and_none (x.0 == (line_at lines i).0))
          ∙ (ap (λ (c : Bool). x.0 == (line_at lines j).0 && c) (not_at i i_below) ∙ and_none (x.0 == (line_at lines j).0)))

  pub first_missing : (lines : List LineId) (table : List (List PairSums)) → IsPlace lines x None → IsTable w lines table → IsTable (with_pair w e f t) lines table
  first_missing lines table off is =
      table_alike w (with_pair w e f t) lines table (λ i j i_below j_below. sym (off_first lines off i j i_below j_below)) is

  pub second_missing : (lines : List LineId) (table : List (List PairSums)) → IsPlace lines y None → IsTable w lines table → IsTable (with_pair w e f t) lines table
  second_missing lines table off is =
      table_alike w (with_pair w e f t) lines table (λ i j i_below j_below. sym (off_second lines off i j i_below j_below)) is

  -- both are
  pub term_added : (lines : List LineId) (table : List (List PairSums)) (p q : ℕ) (s r : PairSums) → AreRising lines → IsPlace lines x (Some p) → IsPlace lines y (Some q)
      → s ≡ with_sum (sums_at table p q) e f x y t → r ≡ with_sum (sums_at table q p) e f y x t → IsTable w lines table
      → IsTable (with_pair w e f t) lines
      (set (set table p (set (get_or table p []) q s)) q (set (get_or (set table p (set (get_or table p []) q s)) q []) p r))
  unfolding cells
  term_added lines table p q s r rising at_x at_y is_s is_r is =
      table_alike (with_cell (with_cell w (line_at lines p) (line_at lines q) s) (line_at lines q) (line_at lines p) r) (with_pair w e f t) lines
      (set (set table p (set (get_or table p []) q s)) q (set (get_or (set table p (set (get_or table p []) q s)) q []) p r))
      (λ i j i_below j_below. ap (λ (z : (LineId → LineId → PairSums)). z (line_at lines i) (line_at lines j)) same ∙ cells_are (line_at lines i) (line_at lines j))
      (put_table (with_cell w (line_at lines p) (line_at lines q) s) lines (set table p (set (get_or table p []) q s)) q p r rising at_y.0 at_x.0
      (put_table w lines table p q s rising at_x.0 at_y.0 is))
    where
      first : s ≡ with_sum (w x y) e f x y t
      first =
          is_s ∙ ap (λ (z : PairSums). with_sum z e f x y t)
          (is.sums p q at_x.0 at_y.0 ∙ (ap (λ (z : LineId). w z (line_at lines q)) at_x.1 ∙ ap (w x) at_y.1))

      second : r ≡ with_sum (w y x) e f y x t
      second =
          is_r ∙ ap (λ (z : PairSums). with_sum z e f y x t)
          (is.sums q p at_y.0 at_x.0 ∙ (ap (λ (z : LineId). w z (line_at lines p)) at_y.1 ∙ ap (w y) at_x.1))

      same : with_cell (with_cell w (line_at lines p) (line_at lines q) s) (line_at lines q) (line_at lines p) r
          ≡ with_cell (with_cell w x y (with_sum (w x y) e f x y t)) y x (with_sum (w y x) e f y x t)
      same =
          ap (λ (z : LineId). with_cell (with_cell w z (line_at lines q) s) (line_at lines q) z r) at_x.1
          ∙ (ap (λ (z : LineId). with_cell (with_cell w x z s) z x r) at_y.1
          ∙ (ap (λ (z : PairSums). with_cell (with_cell w x y z) y x r) first ∙ ap (λ (z : PairSums). with_cell (with_cell w x y (with_sum (w x y) e f x y t)) y x z) second))

-- Terms one after another.

pub empty_is : (e f : SegId) (terms : List Term) (lines : List LineId) (table : List (List PairSums)) → table ≡ replicate (length lines) (replicate (length lines) no_sums)
    → IsTable (pair_sums e f (take 0 terms)) lines table
empty_is e f terms lines table is =
    let n : ℕ = length lines in
    let row : (i : ℕ) → i < n → get_or table i [] ≡ replicate n no_sums = λ i below. ap (λ (t : List (List PairSums)). get_or t i []) is ∙ get_or-replicate n i (replicate n no_sums) [] below in
    record {
      sized = record {
        count = ap length is ∙ length-replicate n (replicate n no_sums);
        widths = λ i below. ap length (row i below) ∙ length-replicate n no_sums;
      };
      sums = λ i j i_below j_below. ap (λ (r : List PairSums). get_or r j no_sums) (row i i_below) ∙ get_or-replicate n j no_sums no_sums j_below;
    }

pub table_more : (e f : SegId) (terms : List Term) (i : ℕ) (d : Term) (lines : List LineId) (old new : List (List PairSums)) → i < length terms
    → ((w : LineId → LineId → PairSums) → IsTable w lines old → IsTable (with_pair w e f (get_or terms i d)) lines new)
    → IsTable (pair_sums e f (take i terms)) lines old → IsTable (pair_sums e f (take (i + 1) terms)) lines new
table_more e f terms i d lines old new below step is =
    table_alike (with_pair (pair_sums e f (take i terms)) e f (get_or terms i d)) (pair_sums e f (take (i + 1) terms)) lines new
    (λ j k j_below k_below. sym (sums_more e f (line_at lines j) (line_at lines k) terms i d below)) (step (pair_sums e f (take i terms)) is)

-- Tables as they lie in memory.

pub row_lies : (table : List (Vec PairSums Global)) (p : ℕ) (row : Vec PairSums Global) → p < length table → row ≡ get_or table p row → row.items ≡ get_or (lists_of table) p []
row_lies table p row below here = ap (λ (v : Vec PairSums Global). v.items) here ∙ sym (get_or-map (λ (v : Vec PairSums Global). v.items) table p row [] below)

pub row_written : (table : List (Vec PairSums Global)) (p q : ℕ) (old fresh : Vec PairSums Global) (s : PairSums) → p < length table → old ≡ get_or table p old
    → fresh.items ≡ set old.items q s → lists_of (set table p fresh) ≡ set (lists_of table) p (set (get_or (lists_of table) p []) q s)
row_written table p q old fresh s below here written =
    map-set (λ (v : Vec PairSums Global). v.items) table p fresh
    ∙ ap (λ (r : List PairSums). set (lists_of table) p r) (written ∙ ap (λ (r : List PairSums). set r q s) (row_lies table p old below here))

pub rows_lie : (table : List (Vec PairSums Global)) → length (lists_of table) ≡ length table
rows_lie table = length-map table (λ (v : Vec PairSums Global). v.items)

-- a place of a line is within a table
pub cell_known : (lines : List LineId) (table : List (List PairSums)) (i j : ℕ) → AreSized lines table → i < length lines → j < length lines → j < length (get_or table i [])
cell_known lines table i j sized i_below j_below = omega (arith, sized.widths i i_below, j_below)
