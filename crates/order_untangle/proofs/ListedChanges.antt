-- Cells and the numbers of each segment after a merge and after a division.
use Rattle.std.proofs.Common.{◌≡◌, ◌≢◌, ℕ, zero, suc, ◌+◌, ◌<◌, ◌≤◌, ◌==◌, Bool, true, false, not, ◌&&◌, Option, Some, None, List, [], ◌∷◌, ◌++◌, length, map, get_or, set, refl, sym, ap, subst, ◌∙◌, arith, inl, inr, ◌⊎◌, true≢false, eqb-true, nat_lt, length-append}
use Rattle.std.specs.Prelude.{filter, if◌then◌else◌}
use Rattle.std.specs.List.{AllByRecursion}
use Rattle.std.proofs.lemmas.Bool.{eqb-false, ltb-true, ltb-false}
use Rattle.std.proofs.lemmas.List.{get_or-set_same, get_or-set_other, get_or_past, get_or_append_left, get_or_push, length-set, length-map}
use Rattle.map_base.specs.declared.ids.SegId.{SegId}
use Rattle.map_base.specs.declared.ids.LineId.{LineId}
use Rattle.order_model.specs.declared.term.Term.{Term}
use Rattle.order_model.specs.Parts.{is_between}
use Rattle.order_rules.specs.PairWeights.{is_on}
use Rattle.order_rules.specs.Merging.{moved}
use Rattle.order_rules.specs.Dividing.{is_with, is_across, renumbered, sent}
use Rattle.order_rules.proofs.FarTerms.{IsFar, moved_alike, renumbered_alike}
use Rattle.order_untangle.specs.LeftTerms.{left, holds_on, cell_at, AreOf, IsFit, IsFitCell, AreListed, changed, merged_cell, divided_cell}
use Rattle.order_untangle.proofs.CellLemmas.{changed_all, not_listed, still_of, kept_of, none_of, joined_of, own_of}
use Rattle.order_untangle.proofs.TermChanges.{moved_far, moved_off, moved_fit, between_both, between_off, renumbered_off, renumbered_fit, past_off, differ_test}

same_seg : (s e : SegId) → (s.0 == e.0) ≡ true → s ≡ e
same_seg s e h = let P : ℕ → SegId = λ n. record { 0 = n } in ap P (eqb-true s.0 e.0 h)

turned_test : (m n : ℕ) → (m == n) ≡ false → (n == m) ≡ false
turned_test m n h = differ_test n m (λ e. eqb-false m n h (sym e))

-- a cell that is not read past the end is one of the cells
fit_at : (n : ℕ) (cells : List (Option Term)) → AllByRecursion (IsFitCell n) cells → (k : ℕ) → IsFitCell n (cell_at cells k)
fit_at n [] all k = tt
fit_at n (c ∷ cells) all zero = all.0
fit_at n (c ∷ cells) all (suc k) = fit_at n cells all.1 k

fit_map : (n m : ℕ) (f : Option Term → Option Term) (cells : List (Option Term)) → ((c : Option Term) → IsFitCell n c → IsFitCell m (f c))
    → AllByRecursion (IsFitCell n) cells → AllByRecursion (IsFitCell m) (map f cells)
fit_map n m f [] h all = tt
fit_map n m f (c ∷ cells) h all = (h c all.0, fit_map n m f cells h all.1)

either_none : (b : Bool) (m : ℕ) → m ≡ 0 → (if b then m else 0) ≡ 0
either_none true m h = h
either_none false m h = refl

-- a cell that stays on a segment or becomes empty adds the same
stays : (h : ℕ → Option Term → ℕ) (n : ℕ) → h n None ≡ 0 → (s : SegId) (c d : Option Term) → (holds_on s d ≡ holds_on s c) ⊎ (d ≡ None)
    → (if holds_on s c then h n d else 0) ≡ (if holds_on s d then h n d else 0)
stays h n zero_h s c d (inl same) = ap (λ (b : Bool). if b then h n d else 0) (sym same)
stays h n zero_h s c d (inr none) =
    either_none (holds_on s c) (h n d) (ap (h n) none ∙ zero_h) ∙ sym (ap (λ (b : Option Term). if holds_on s b then h n b else 0) none)

-- a cell that now stands on r stood on s
comes : (s r : SegId) (c d : Option Term) (m : ℕ) → (holds_on s c ≡ false → holds_on r d ≡ false)
    → (if holds_on s c then (if holds_on r d then m else 0) else 0) ≡ (if holds_on r d then m else 0)
comes s r c d m off = by_test (holds_on s c) refl
  where
    by_test : (b : Bool) → holds_on s c ≡ b → (if b then (if holds_on r d then m else 0) else 0) ≡ (if holds_on r d then m else 0)
    by_test true h = refl
    by_test false h = sym (ap (λ (b : Bool). if b then m else 0) (off h))

-- a segment forgets the numbers of cells that hold none of its terms
pub own_listed : (cells : List (Option Term)) (on numbers : List (List ℕ)) (e : SegId) → AreListed cells on → e.0 < length on
    → numbers ≡ set on e.0 (filter (λ n. holds_on e (cell_at cells n)) (get_or on e.0 [])) → AreListed cells numbers
own_listed cells on numbers e listed known is = record {
  few = listed.few;
  fit = subst (λ (n : ℕ). AllByRecursion (IsFitCell n) cells) (sym (ap length is ∙ length-set on e.0 (filter (λ n. holds_on e (cell_at cells n)) (get_or on e.0 [])))) listed.fit;
  each = λ s. by_test s (s.0 == e.0) refl;
}
  where
    own : List ℕ
    own = filter (λ n. holds_on e (cell_at cells n)) (get_or on e.0 [])

    at_e : AreOf cells e (get_or numbers e.0 [])
    at_e =
        subst (AreOf cells e) (sym (ap (λ (ls : List (List ℕ)). get_or ls e.0 []) is ∙ get_or-set_same on e.0 own [] known))
        (own_of (IsFitCell (length on)) cells listed.fit e (get_or on e.0 []) (listed.each e))

    by_test : (s : SegId) (c : Bool) → (s.0 == e.0) ≡ c → AreOf cells s (get_or numbers s.0 [])
    by_test s true h = subst (λ (r : SegId). AreOf cells r (get_or numbers r.0 [])) (sym (same_seg s e h)) at_e
    by_test s false h =
        subst (AreOf cells s) (sym (ap (λ (ls : List (List ℕ)). get_or ls s.0 []) is ∙ get_or-set_other on e.0 s.0 own [] (eqb-false s.0 e.0 h)))
        (listed.each s)

-- A merge of f into e.

module _ (e f : SegId) (flip : Bool) (off : (e.0 == f.0) ≡ false) where
  abbrev step : Option Term → Option Term
  step = merged_cell e f flip

  step_off : (n : ℕ) (c : Option Term) → IsFitCell n c → holds_on f c ≡ false → step c ≡ c
  step_off n None fit h = refl
  step_off n (Some t) fit h =
      ap (λ (b : Bool). if b then None else Some (moved e f flip t)) (between_off e f t h) ∙ ap (λ (u : Term). Some u) (moved_far e f flip n t fit h)

  step_fit : (n : ℕ) → e.0 < n → (c : Option Term) → IsFitCell n c → IsFitCell n (step c)
  step_fit n known None fit = tt
  step_fit n known (Some t) fit = by_test (is_between t e.0 f.0)
    where
      by_test : (b : Bool) → IsFitCell n (if b then None else Some (moved e f flip t))
      by_test true = tt
      by_test false = moved_fit e f flip n t known fit

  step_leaves : (c : Option Term) → holds_on f (step c) ≡ false
  step_leaves None = refl
  step_leaves (Some t) = by_test (is_between t e.0 f.0)
    where
      by_test : (b : Bool) → holds_on f (if b then None else Some (moved e f flip t)) ≡ false
      by_test true = refl
      by_test false = moved_off e f flip off t

  step_once : (n : ℕ) → e.0 < n → (c : Option Term) → IsFitCell n c → step (step c) ≡ step c
  step_once n known c fit = step_off n (step c) (step_fit n known c fit) (step_leaves c)

  step_far : (s : SegId) → IsFar e f s → (c : Option Term) → (holds_on s (step c) ≡ holds_on s c) ⊎ (step c ≡ None)
  step_far s far None = inl refl
  step_far s far (Some t) = by_test (is_between t e.0 f.0)
    where
      by_test : (b : Bool) → (holds_on s (if b then None else Some (moved e f flip t)) ≡ is_on s t) ⊎ ((if b then None else Some (moved e f flip t)) ≡ None)
      by_test true = inr refl
      by_test false = inl ((moved_alike e f flip t).on s far)

  one_sum : (a b now : Bool) (m : ℕ) → (a ≡ true → b ≡ true → ⊥) → (b ≡ false → now ≡ a)
      → (if a then m else 0) + (if b then (if now then m else 0) else 0) ≡ (if now then m else 0)
  one_sum true true now m differ same = absurd (differ refl refl)
  one_sum true false now m differ same =
      let last : m + 0 ≡ m = omega arith in
      last ∙ ap (λ (x : Bool). if x then m else 0) (sym (same refl))
  one_sum false true now m differ same = omega arith
  one_sum false false now m differ same = ap (λ (x : Bool). if x then m else 0) (sym (same refl))

  no_sum : (a b : Bool) (m : ℕ) → m ≡ 0 → (if a then m else 0) + (if b then 0 else 0) ≡ 0
  no_sum true true m h = omega (arith, h)
  no_sum true false m h = omega (arith, h)
  no_sum false true m h = refl
  no_sum false false m h = refl

  -- e has its own terms and those of f that are left
  step_joins : (n : ℕ) (h : ℕ → Option Term → ℕ) → ((k : ℕ) → h k None ≡ 0) → (k : ℕ) (c : Option Term) → IsFitCell n c
      → (if holds_on e c then h k (step c) else 0) + (if holds_on f c then (if holds_on e (step c) then h k (step c) else 0) else 0)
      ≡ (if holds_on e (step c) then h k (step c) else 0)
  step_joins n h zero_h k None fit = refl
  step_joins n h zero_h k (Some t) fit = by_test (is_between t e.0 f.0) refl
    where
      now : Term
      now = moved e f flip t

      same : is_on f t ≡ false → is_on e (moved e f flip t) ≡ is_on e t
      same m = ap (is_on e) (moved_far e f flip n t fit m)

      by_test : (b : Bool) → is_between t e.0 f.0 ≡ b
          → (if is_on e t then h k (if b then None else Some (moved e f flip t)) else 0)
          + (if is_on f t then (if holds_on e (if b then None else Some (moved e f flip t)) then h k (if b then None else Some (moved e f flip t)) else 0) else 0)
          ≡ (if holds_on e (if b then None else Some (moved e f flip t)) then h k (if b then None else Some (moved e f flip t)) else 0)
      by_test true m = no_sum (is_on e t) (is_on f t) (h k None) (zero_h k)
      by_test false m =
          one_sum (is_on e t) (is_on f t) (is_on e (moved e f flip t)) (h k (Some (moved e f flip t)))
          (λ x y. true≢false (sym (between_both e f off t x y) ∙ m)) same

  left_merged : (cells : List (Option Term)) → left (map step cells) ≡ map (moved e f flip) (filter (λ t. not (is_between t e.0 f.0)) (left cells))
  left_merged [] = refl
  left_merged (None ∷ cells) = left_merged cells
  left_merged (Some t ∷ cells) = by_test (is_between t e.0 f.0) (left_merged cells)
    where
      by_test : (b : Bool) → left (map step cells) ≡ map (moved e f flip) (filter (λ u. not (is_between u e.0 f.0)) (left cells))
          → left ((if b then None else Some (moved e f flip t)) ∷ map step cells)
          ≡ map (moved e f flip) (if not b then t ∷ filter (λ u. not (is_between u e.0 f.0)) (left cells) else filter (λ u. not (is_between u e.0 f.0)) (left cells))
      by_test true rest = rest
      by_test false rest = ap (λ (ts : List Term). moved e f flip t ∷ ts) rest

  -- the cells after a merge, by the numbers of f
  merged_cells : (cells : List (Option Term)) (on : List (List ℕ)) → AreListed cells on → e.0 < length on → changed step cells (get_or on f.0 []) ≡ map step cells
  merged_cells cells on listed known =
      changed_all step refl (get_or on f.0 []) cells
      (λ k. step_once (length on) known (cell_at cells k) (fit_at (length on) cells listed.fit k))
      (λ k out. step_off (length on) (cell_at cells k) (fit_at (length on) cells listed.fit k) (not_listed cells f (get_or on f.0 []) (listed.each f) k out))

  pub merged_left : (cells : List (Option Term)) (on : List (List ℕ)) → AreListed cells on → e.0 < length on
      → left (changed step cells (get_or on f.0 [])) ≡ map (moved e f flip) (filter (λ t. not (is_between t e.0 f.0)) (left cells))
  merged_left cells on listed known = ap left (merged_cells cells on listed known) ∙ left_merged cells

  -- the numbers after a merge
  abbrev pub merged_numbers : List (Option Term) → List (List ℕ) → List (List ℕ)
  merged_numbers after on =
      let rest = set on f.0 [] in
      set rest e.0 (get_or rest e.0 [] ++ filter (λ n. holds_on e (cell_at after n)) (get_or on f.0 []))

  merged_of : (cells : List (Option Term)) (on : List (List ℕ)) → AreListed cells on → e.0 < length on → f.0 < length on
      → (s : SegId) → AreOf (map step cells) s (get_or (merged_numbers (map step cells) on) s.0 [])
  merged_of cells on listed known_e known_f s = by_tests (s.0 == e.0) (s.0 == f.0) refl refl
    where
      rest : List (List ℕ)
      rest = set on f.0 []

      more : List ℕ
      more = get_or rest e.0 [] ++ filter (λ n. holds_on e (cell_at (map step cells) n)) (get_or on f.0 [])

      Is : SegId → List ℕ → Type 0
      Is r ns = AreOf (map step cells) r ns

      at_e : AreOf (map step cells) e (get_or (set rest e.0 more) e.0 [])
      at_e =
          subst (Is e) (sym (get_or-set_same rest e.0 more [] (omega (arith, known_e, length-set on f.0 []))))
          (subst (λ (ns : List ℕ). Is e (ns ++ filter (λ n. holds_on e (cell_at (map step cells) n)) (get_or on f.0 [])))
          (sym (get_or-set_other on f.0 e.0 [] [] (eqb-false e.0 f.0 off)))
          (joined_of step refl (IsFitCell (length on)) cells listed.fit f e (get_or on f.0 []) (get_or on e.0 []) (listed.each f) (listed.each e)
          (λ h zero_h k c fit. step_joins (length on) h zero_h k c fit)))

      at_f : AreOf (map step cells) f (get_or (set rest e.0 more) f.0 [])
      at_f =
          subst (Is f) (sym (get_or-set_other rest e.0 f.0 more [] (λ same. eqb-false e.0 f.0 off (sym same)) ∙ get_or-set_same on f.0 [] [] known_f))
          (none_of step refl (IsFitCell (length on)) cells listed.fit f (λ c fit. step_leaves c))

      at_far : (s.0 == e.0) ≡ false → (s.0 == f.0) ≡ false → AreOf (map step cells) s (get_or (set rest e.0 more) s.0 [])
      at_far h k =
          subst (Is s) (sym (get_or-set_other rest e.0 s.0 more [] (eqb-false s.0 e.0 h) ∙ get_or-set_other on f.0 s.0 [] [] (eqb-false s.0 f.0 k)))
          (still_of step refl (IsFitCell (length on)) cells listed.fit s (get_or on s.0 []) (listed.each s)
          (λ g zero_g n c fit. stays g n (zero_g n) s c (step c) (step_far s (turned_test s.0 e.0 h, turned_test s.0 f.0 k) c)))

      by_tests : (c d : Bool) → (s.0 == e.0) ≡ c → (s.0 == f.0) ≡ d → AreOf (map step cells) s (get_or (merged_numbers (map step cells) on) s.0 [])
      by_tests true d h k = subst (λ (r : SegId). AreOf (map step cells) r (get_or (merged_numbers (map step cells) on) r.0 [])) (sym (same_seg s e h)) at_e
      by_tests false true h k = subst (λ (r : SegId). AreOf (map step cells) r (get_or (merged_numbers (map step cells) on) r.0 [])) (sym (same_seg s f k)) at_f
      by_tests false false h k = at_far h k

  pub merged_listed : (cells after : List (Option Term)) (on numbers : List (List ℕ)) → AreListed cells on → e.0 < length on → f.0 < length on
      → after ≡ changed step cells (get_or on f.0 []) → numbers ≡ merged_numbers after on → AreListed after numbers
  merged_listed cells after on numbers listed known_e known_f is_after is_numbers =
      let all : after ≡ map step cells = is_after ∙ merged_cells cells on listed known_e in
      let these : numbers ≡ merged_numbers (map step cells) on = is_numbers ∙ ap (λ (cs : List (Option Term)). merged_numbers cs on) all in
      let many : length numbers ≡ length on =
      ap length is_numbers
      ∙ (length-set (set on f.0 []) e.0 (get_or (set on f.0 []) e.0 [] ++ filter (λ n. holds_on e (cell_at after n)) (get_or on f.0 [])) ∙ length-set on f.0 []) in
      let few : length (map step cells) ≤ 4000000 = omega (arith, listed.few, length-map cells step) in
      let made : AreListed (map step cells) (merged_numbers (map step cells) on) = record {
        few = few;
        fit = subst (λ (n : ℕ). AllByRecursion (IsFitCell n) (map step cells)) (sym (sym (ap length these) ∙ many))
            (fit_map (length on) (length on) step cells (step_fit (length on) known_e) listed.fit);
        each = merged_of cells on listed known_e known_f;
      } in
      subst (λ (cs : List (Option Term)). AreListed cs numbers) (sym all) (subst (AreListed (map step cells)) (sym these) made)

-- A division of e, whose rest goes to a new last segment.

module _ (e new : SegId) (group rest : List LineId) (off : (new.0 == e.0) ≡ false) where
  abbrev part : Option Term → Option Term
  part = divided_cell e new group rest

  part_off : (c : Option Term) → holds_on e c ≡ false → part c ≡ c
  part_off None h = refl
  part_off (Some t) h =
      ap (λ (b : Bool). if (b && is_with group t) && is_with rest t then None else Some (if b && is_with rest t then renumbered e new t else t)) h

  part_once : (c : Option Term) → part (part c) ≡ part c
  part_once None = refl
  part_once (Some t) = by_test (is_across e group rest t) refl
    where
      by_sent : is_across e group rest t ≡ false → (c : Bool) → (is_on e t && is_with rest t) ≡ c
          → part (Some (if c then renumbered e new t else t)) ≡ Some (if c then renumbered e new t else t)
      by_sent m true k = part_off (Some (renumbered e new t)) (renumbered_off e new off t)
      by_sent m false k =
          ap (λ (b : Bool). if b then None else Some (sent e new rest t)) m ∙ ap (λ (b : Bool). Some (if b then renumbered e new t else t)) k

      by_test : (b : Bool) → is_across e group rest t ≡ b → part (if b then None else Some (sent e new rest t)) ≡ (if b then None else Some (sent e new rest t))
      by_test true m = refl
      by_test false m = by_sent m (is_on e t && is_with rest t) refl

  part_far : (s : SegId) → IsFar new e s → (c : Option Term) → (holds_on s (part c) ≡ holds_on s c) ⊎ (part c ≡ None)
  part_far s far None = inl refl
  part_far s far (Some t) = by_test (is_across e group rest t)
    where
      by_sent : (c : Bool) → is_on s (if c then renumbered e new t else t) ≡ is_on s t
      by_sent true = (renumbered_alike new e t).on s far
      by_sent false = refl

      by_test : (b : Bool) → (holds_on s (if b then None else Some (sent e new rest t)) ≡ is_on s t) ⊎ ((if b then None else Some (sent e new rest t)) ≡ None)
      by_test true = inr refl
      by_test false = inl (by_sent (is_on e t && is_with rest t))

  part_fit : (n : ℕ) → new.0 ≡ n → (c : Option Term) → IsFitCell n c → IsFitCell (n + 1) (part c)
  part_fit n last None fit = tt
  part_fit n last (Some t) fit = by_test (is_across e group rest t)
    where
      by_sent : (c : Bool) → IsFit (n + 1) (if c then renumbered e new t else t)
      by_sent true = renumbered_fit (n + 1) e new (omega (arith, last)) t (omega (arith, fit.seg_known), omega (arith, fit.other_known))
      by_sent false = record { lesser_first = fit.lesser_first; seg_known = omega (arith, fit.seg_known); other_known = omega (arith, fit.other_known) }

      by_test : (b : Bool) → IsFitCell (n + 1) (if b then None else Some (sent e new rest t))
      by_test true = tt
      by_test false = by_sent (is_on e t && is_with rest t)

  new_off : (n : ℕ) → new.0 ≡ n → (c : Option Term) → IsFitCell n c → holds_on new c ≡ false
  new_off n last None fit = refl
  new_off n last (Some t) fit = past_off n new (omega (arith, last)) t fit

  left_divided : (cells : List (Option Term)) → left (map part cells) ≡ map (sent e new rest) (filter (λ t. not (is_across e group rest t)) (left cells))
  left_divided [] = refl
  left_divided (None ∷ cells) = left_divided cells
  left_divided (Some t ∷ cells) = by_test (is_across e group rest t) (left_divided cells)
    where
      by_test : (b : Bool) → left (map part cells) ≡ map (sent e new rest) (filter (λ u. not (is_across e group rest u)) (left cells))
          → left ((if b then None else Some (sent e new rest t)) ∷ map part cells)
          ≡ map (sent e new rest) (if not b then t ∷ filter (λ u. not (is_across e group rest u)) (left cells) else filter (λ u. not (is_across e group rest u)) (left cells))
      by_test true more = more
      by_test false more = ap (λ (ts : List Term). sent e new rest t ∷ ts) more

  divided_cells : (cells : List (Option Term)) (on : List (List ℕ)) → AreListed cells on → changed part cells (get_or on e.0 []) ≡ map part cells
  divided_cells cells on listed =
      changed_all part refl (get_or on e.0 []) cells (λ k. part_once (cell_at cells k))
      (λ k out. part_off (cell_at cells k) (not_listed cells e (get_or on e.0 []) (listed.each e) k out))

  pub divided_left : (cells : List (Option Term)) (on : List (List ℕ)) → AreListed cells on
      → left (changed part cells (get_or on e.0 [])) ≡ map (sent e new rest) (filter (λ t. not (is_across e group rest t)) (left cells))
  divided_left cells on listed = ap left (divided_cells cells on listed) ∙ left_divided cells

  -- the numbers of one of the two segments after a division
  abbrev part_numbers : SegId → List (Option Term) → List (List ℕ) → List ℕ
  part_numbers r after on = filter (λ n. holds_on r (cell_at after n)) (get_or on e.0 [])

  -- the numbers after a division
  abbrev pub divided_numbers : List (Option Term) → List (List ℕ) → List (List ℕ)
  divided_numbers after on =
      let others = set on e.0 [] in
      set others e.0 (get_or others e.0 [] ++ filter (λ n. holds_on e (cell_at after n)) (get_or on e.0 []))
      ++ filter (λ n. holds_on new (cell_at after n)) (get_or on e.0 []) ∷ []

  divided_of : (cells : List (Option Term)) (on : List (List ℕ)) → AreListed cells on → e.0 < length on → new.0 ≡ length on
      → (s : SegId) → AreOf (map part cells) s (get_or (divided_numbers (map part cells) on) s.0 [])
  divided_of cells on listed known last s = by_tests (s.0 == e.0) (s.0 == new.0) refl refl
    where
      others : List (List ℕ)
      others = set on e.0 []

      own : List ℕ
      own = get_or others e.0 [] ++ part_numbers e (map part cells) on

      gone : List ℕ
      gone = part_numbers new (map part cells) on

      many : length (set others e.0 own) ≡ length on
      many = length-set others e.0 own ∙ length-set on e.0 []

      Is : SegId → List ℕ → Type 0
      Is r ns = AreOf (map part cells) r ns

      kept : (r : SegId) → ((c : Option Term) → IsFitCell (length on) c → holds_on e c ≡ false → holds_on r c ≡ false)
          → AreOf (map part cells) r (part_numbers r (map part cells) on)
      kept r none =
          kept_of part refl (IsFitCell (length on)) cells listed.fit e r (get_or on e.0 []) (listed.each e)
          (λ h n c fit. comes e r c (part c) (h n (part c)) (λ k. ap (holds_on r) (part_off c k) ∙ none c fit k))

      at_e : AreOf (map part cells) e (get_or (set others e.0 own ++ gone ∷ []) e.0 [])
      at_e =
          subst (Is e)
          (sym (get_or_append_left (set others e.0 own) (gone ∷ []) [] e.0 (omega (arith, known, many))
          ∙ get_or-set_same others e.0 own [] (omega (arith, known, length-set on e.0 []))))
          (subst (λ (ns : List ℕ). Is e (ns ++ part_numbers e (map part cells) on)) (sym (get_or-set_same on e.0 [] [] known)) (kept e (λ c fit k. k)))

      at_new : AreOf (map part cells) new (get_or (set others e.0 own ++ gone ∷ []) new.0 [])
      at_new =
          subst (Is new) (sym (get_or_push (set others e.0 own) gone [] new.0 (many ∙ sym last)))
          (kept new (λ c fit k. new_off (length on) last c fit))

      far_numbers : (s.0 == e.0) ≡ false → (s.0 == new.0) ≡ false → get_or (set others e.0 own ++ gone ∷ []) s.0 [] ≡ get_or on s.0 []
      far_numbers h k = by_place (nat_lt s.0 (length on)) refl
        where
          by_place : (c : Bool) → nat_lt s.0 (length on) ≡ c → get_or (set others e.0 own ++ gone ∷ []) s.0 [] ≡ get_or on s.0 []
          by_place true m =
              get_or_append_left (set others e.0 own) (gone ∷ []) [] s.0 (omega (arith, many, ltb-true s.0 (length on) m))
              ∙ (get_or-set_other others e.0 s.0 own [] (eqb-false s.0 e.0 h) ∙ get_or-set_other on e.0 s.0 [] [] (eqb-false s.0 e.0 h))
          by_place false m =
              let past : length on ≤ s.0 = ltb-false s.0 (length on) m in
              let size : length (set others e.0 own ++ gone ∷ []) ≡ length (set others e.0 own) + 1 = length-append (set others e.0 own) (gone ∷ []) in
              let not_last : s.0 ≢ new.0 = eqb-false s.0 new.0 k in
              get_or_past (set others e.0 own ++ gone ∷ []) s.0 [] (omega (arith, size, many, past, last, not_last)) ∙ sym (get_or_past on s.0 [] past)

      at_far : (s.0 == e.0) ≡ false → (s.0 == new.0) ≡ false → AreOf (map part cells) s (get_or (set others e.0 own ++ gone ∷ []) s.0 [])
      at_far h k =
          subst (Is s) (sym (far_numbers h k))
          (still_of part refl (IsFitCell (length on)) cells listed.fit s (get_or on s.0 []) (listed.each s)
          (λ g zero_g n c fit. stays g n (zero_g n) s c (part c) (part_far s (turned_test s.0 new.0 k, turned_test s.0 e.0 h) c)))

      by_tests : (c d : Bool) → (s.0 == e.0) ≡ c → (s.0 == new.0) ≡ d → AreOf (map part cells) s (get_or (divided_numbers (map part cells) on) s.0 [])
      by_tests true d h k = subst (λ (r : SegId). AreOf (map part cells) r (get_or (divided_numbers (map part cells) on) r.0 [])) (sym (same_seg s e h)) at_e
      by_tests false true h k = subst (λ (r : SegId). AreOf (map part cells) r (get_or (divided_numbers (map part cells) on) r.0 [])) (sym (same_seg s new k)) at_new
      by_tests false false h k = at_far h k

  pub divided_listed : (cells after : List (Option Term)) (on numbers : List (List ℕ)) → AreListed cells on → e.0 < length on → new.0 ≡ length on
      → after ≡ changed part cells (get_or on e.0 []) → numbers ≡ divided_numbers after on → AreListed after numbers
  divided_listed cells after on numbers listed known last is_after is_numbers =
      let all : after ≡ map part cells = is_after ∙ divided_cells cells on listed in
      let these : numbers ≡ divided_numbers (map part cells) on = is_numbers ∙ ap (λ (cs : List (Option Term)). divided_numbers cs on) all in
      let others : List (List ℕ) = set on e.0 [] in
      let many : length (divided_numbers (map part cells) on) ≡ length on + 1 =
      length-append (set (set on e.0 []) e.0 (get_or (set on e.0 []) e.0 [] ++ part_numbers e (map part cells) on)) (part_numbers new (map part cells) on ∷ [])
      ∙ ap (λ (n : ℕ). n + 1)
      (length-set (set on e.0 []) e.0 (get_or (set on e.0 []) e.0 [] ++ part_numbers e (map part cells) on) ∙ length-set on e.0 []) in
      let few : length (map part cells) ≤ 4000000 = omega (arith, listed.few, length-map cells part) in
      let made : AreListed (map part cells) (divided_numbers (map part cells) on) = record {
        few = few;
        fit = subst (λ (n : ℕ). AllByRecursion (IsFitCell n) (map part cells)) (sym many)
            (fit_map (length on) (length on + 1) part cells (part_fit (length on) last) listed.fit);
        each = divided_of cells on listed known last;
      } in
      subst (λ (cs : List (Option Term)). AreListed cs numbers) (sym all) (subst (AreListed (map part cells)) (sym these) made)
