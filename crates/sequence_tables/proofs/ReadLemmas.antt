-- Rows that are read in full, by their places; the first of them that repeats an earlier one.
use Rattle.std.proofs.Common.{◌≡◌, ℕ, zero, suc, ◌+◌, ◌-◌, ◌<◌, ◌≤◌, ◌⊎◌, inl, inr, Bool, true, false, cond, List, [], ◌∷◌, ◌++◌, length, get_or, map, filter, take, Option, Some, None, is_some, option_map, option_to_list, refl, sym, ◌∙◌, ap, arith, max}
use Rattle.std.specs.List.{All}
use Rattle.std.proofs.lemmas.Bool.{cases_lt}
use Rattle.std.proofs.lemmas.List.{length-append, length-map, get_or-map, get_or_append_left, get_or-append_right, map-append, length-drop, length-take}
use Rattle.std.proofs.lemmas.List.Elements.{All-nil, All-append, All-push, All-weaker, All-get_or}
use Rattle.ordered_entries.specs.declared.entry.Entry.{Entry}
use Rattle.ordered_entries.specs.Entries.{entry_at, Repeats, AreDistinct, IsFirstRepeat}
use Rattle.table_rows.specs.declared.why.Why.{Why}
use Rattle.table_rows.specs.declared.why.Why.TheVariants.{RepeatedSequence}
use Rattle.table_rows.specs.Cells.{Row, row_at, rows_before}
use Rattle.table_rows.specs.Reasons.{first_below, first_bad, first_of, at_place}
use Rattle.table_rows.proofs.RowLemmas.{filter_before}
use Rattle.table_rows.proofs.ReasonLemmas.{first_below-none, first_below-found}
use Rattle.sequence_tables.specs.Reads.{passes, places_before}

-- the rows at these places are the rows that pass
pub rows_at_places : (test : Row → Bool) (n : ℕ) (rows : List Row) → n ≤ length rows → map (row_at rows) (places_before test n rows) ≡ filter test (rows_before n rows)
rows_at_places test zero rows l = refl
rows_at_places test (suc zero) [] l = absurd (omega (arith, l))
rows_at_places test (suc zero) (header ∷ rows) l = refl
rows_at_places test (suc (suc n)) rows l =
    let e : suc (suc n) ≡ suc n + 1 = omega arith in
    map-append (row_at rows) (places_before test (suc n) rows) (cond (test (row_at rows (suc n))) (suc n ∷ []) [])
    ∙ ap (λ front. front ++ map (row_at rows) (cond (test (row_at rows (suc n))) (suc n ∷ []) [])) (rows_at_places test (suc n) rows (omega (arith, l)))
    ∙ ap (λ back. filter test (rows_before (suc n) rows) ++ back) (last (test (row_at rows (suc n))))
    ∙ sym (filter_before test (suc n) rows (omega arith) (omega (arith, l)))
    ∙ ap (λ (m : ℕ). filter test (rows_before m rows)) (sym e)
  where
    last : (b : Bool) → map (row_at rows) (cond b (suc n ∷ []) []) ≡ cond b (row_at rows (suc n) ∷ []) []
    last true = refl
    last false = refl

module _ (test : Row → Bool) (rows : List Row) where
  -- it lies below a number, and its row passes
  abbrev Passes : ℕ → ℕ → Type 0
  Passes n place = (place < n) × (passes test rows place ≡ true)

  all_pass : (n : ℕ) → All (Passes n) (places_before test n rows)
  all_pass zero = All-nil (Passes 0)
  all_pass (suc n) = by (passes test rows n) refl (All-weaker (Passes n) (Passes (suc n)) (λ place h. (omega (arith, h.0), h.1)) (places_before test n rows) (all_pass n))
    where
      by : (b : Bool) → passes test rows n ≡ b → All (Passes (suc n)) (places_before test n rows) → All (Passes (suc n)) (places_before test n rows ++ cond b (n ∷ []) [])
      by true e rest = All-push (Passes (suc n)) (places_before test n rows) n rest (omega arith, e)
      by false e rest = All-append (Passes (suc n)) (places_before test n rows) [] rest (All-nil (Passes (suc n)))

  pub place_passes : (n k : ℕ) → k < length (places_before test n rows) → Passes n (get_or (places_before test n rows) k 0)
  place_passes n k l = All-get_or (Passes n) (places_before test n rows) k 0 l (all_pass n)

  -- each place that passes is among them, and earlier ones stand before it
  pub place_found : (n place : ℕ) → place < n → passes test rows place ≡ true
      → (k : ℕ) × (k < length (places_before test n rows)) × (get_or (places_before test n rows) k 0 ≡ place)
  place_found zero place l here = absurd (omega (arith, l))
  place_found (suc n) place l here = by (cases_lt place n) (place_found n place)
    where
      by : (place < n) ⊎ (n ≤ place)
          → (place < n → passes test rows place ≡ true → (k : ℕ) × (k < length (places_before test n rows)) × (get_or (places_before test n rows) k 0 ≡ place))
          → (k : ℕ) × (k < length (places_before test (suc n) rows)) × (get_or (places_before test (suc n) rows) k 0 ≡ place)
      by (inl low) earlier =
          let found = earlier low here in
          let back = cond (passes test rows n) (n ∷ []) [] in (
            found.0,
            omega (arith, found.1, length-append (places_before test n rows) back),
            get_or_append_left (places_before test n rows) back 0 found.0 found.1 ∙ found.2,
          )
      by (inr high) earlier =
          let same : n ≡ place = omega (arith, l, high) in
          let last : passes test rows n ≡ true = ap (passes test rows) same ∙ here in
          let size : ℕ = length (places_before test n rows) in
          let zeroth : size - size ≡ 0 = omega arith in
          rw last (
            size,
            omega (arith, length-append (places_before test n rows) (n ∷ [])),
            get_or-append_right (places_before test n rows) (n ∷ []) size size 0 refl (omega arith) ∙ ap (λ (m : ℕ). get_or (n ∷ []) m 0) zeroth ∙ same,
          )

  pub places_rise : (n i j : ℕ) → i < j → j < length (places_before test n rows) → get_or (places_before test n rows) i 0 < get_or (places_before test n rows) j 0
  places_rise zero i j h l = absurd (omega (arith, l))
  places_rise (suc n) i j h l = by (passes test rows n) l (cases_lt j (length (places_before test n rows))) (places_rise n i j h)
    where
      by : (b : Bool) → j < length (places_before test n rows ++ cond b (n ∷ []) []) → (j < length (places_before test n rows)) ⊎ (length (places_before test n rows) ≤ j)
          → (j < length (places_before test n rows) → get_or (places_before test n rows) i 0 < get_or (places_before test n rows) j 0)
          → get_or (places_before test n rows ++ cond b (n ∷ []) []) i 0 < get_or (places_before test n rows ++ cond b (n ∷ []) []) j 0
      by b l (inl low) earlier =
          rw (get_or_append_left (places_before test n rows) (cond b (n ∷ []) []) 0 i (omega (arith, h, low)), get_or_append_left (places_before test n rows) (cond b (n ∷ []) []) 0 j low) (earlier low)
      by true l (inr high) earlier =
          let at : j ≡ length (places_before test n rows) = omega (arith, l, high, length-append (places_before test n rows) (n ∷ [])) in
          let first = place_passes n i (omega (arith, h, at)) in
          let zeroth : j - length (places_before test n rows) ≡ 0 = omega (arith, at) in
          let here : get_or (places_before test n rows ++ n ∷ []) j 0 ≡ n =
          get_or-append_right (places_before test n rows) (n ∷ []) (length (places_before test n rows)) j 0 refl high ∙ ap (λ (m : ℕ). get_or (n ∷ []) m 0) zeroth in
          rw (here, get_or_append_left (places_before test n rows) (n ∷ []) 0 i (omega (arith, h, at))) (first.0)
      by false l (inr high) earlier = absurd (omega (arith, l, high, length-append (places_before test n rows) []))

  -- The first repeat among what rows say is that of the first row that is a repeat.
  module _ (n : ℕ) (within : n ≤ length rows) (entry : Row → Entry) (repeat : ℕ → Bool)
      (sound : (p : ℕ) → p < n → repeat p ≡ true → (passes test rows p ≡ true) × (q : ℕ) × (q < p) × (passes test rows q ≡ true) × (entry (row_at rows q) ≡ entry (row_at rows p)))
      (complete : (p q : ℕ) → p < n → q < p → passes test rows q ≡ true → passes test rows p ≡ true → entry (row_at rows q) ≡ entry (row_at rows p) → repeat p ≡ true) where
    abbrev places : List ℕ
    places = places_before test n rows

    abbrev place : ℕ → ℕ
    place k = get_or places k 0

    abbrev entries : List Entry
    entries = map entry (filter test (rows_before n rows))

    counted : length entries ≡ length places
    counted =
        length-map (filter test (rows_before n rows)) entry ∙ ap length (sym (rows_at_places test n rows within)) ∙ length-map places (row_at rows)

    entry_is : (k : ℕ) → k < length places → entry_at entries k ≡ entry (row_at rows (place k))
    entry_is k l =
        get_or-map entry (filter test (rows_before n rows)) k [] (record { key = 0; sequence = 0 })
        (omega (arith, l, counted, length-map (filter test (rows_before n rows)) entry))
        ∙ ap (λ (rs : List Row). entry (get_or rs k [])) (sym (rows_at_places test n rows within))
        ∙ ap entry (get_or-map (row_at rows) places k 0 [] l)

    -- a repeat is the entry of an earlier place again
    repeat_at : (k : ℕ) → k < length places → Repeats entries k → repeat (place k) ≡ true
    repeat_at k l r =
        let here = place_passes n k l in
        let low : r.0 < length places = omega (arith, r.1, l) in
        let before = place_passes n r.0 low in
        complete (place k) (place r.0) here.0 (places_rise n r.0 k r.1 l) before.1 here.1 (sym (entry_is r.0 low) ∙ r.2 ∙ entry_is k l)

    earlier : (i k : ℕ) → k < length places → place i < place k → (i < k) ⊎ (k ≤ i) → i < length places → i < k
    earlier i k lk h (inl lt) li = lt
    earlier i k lk h (inr ge) li = at (cases_lt k i)
      where
        at : (k < i) ⊎ (i ≤ k) → i < k
        at (inl lt) = absurd (omega (arith, places_rise n k i lt li, h))
        at (inr le) =
            let same : i ≡ k = omega (arith, ge, le) in
            absurd (omega (arith, h, ap place same))

    repeats_by : (p : ℕ) → p < n → repeat p ≡ true → (k : ℕ) × (k < length places) × (place k ≡ p) × Repeats entries k
    repeats_by p l h =
        let s = sound p l h in
        let a = place_found n p l s.0 in
        let b = place_found n s.1 (omega (arith, s.2, l)) s.3 in
        let before : b.0 < a.0 = earlier b.0 a.0 a.1 (omega (arith, a.2, b.2, s.2)) (cases_lt b.0 a.0) b.1 in
        (a.0, a.1, a.2, (b.0, before, entry_is b.0 b.1 ∙ ap (λ (q : ℕ). entry (row_at rows q)) b.2 ∙ s.4 ∙ ap (λ (q : ℕ). entry (row_at rows q)) (sym a.2) ∙ sym (entry_is a.0 a.1)))

    pub no_repeat : AreDistinct entries → (p : ℕ) → p < n → repeat p ≡ false
    no_repeat distinct p l = by (repeat p) refl
      where
        by : (b : Bool) → repeat p ≡ b → repeat p ≡ false
        by true e =
            let k = repeats_by p l e in
            absurd (distinct k.0 (omega (arith, k.1, counted)) k.3)
        by false e = e

    pub first_repeat : (k : ℕ) → IsFirstRepeat entries k → (k < length places) × (place k < n) × (repeat (place k) ≡ true) × ((p : ℕ) → p < place k → repeat p ≡ false)
    first_repeat k first =
        let l : k < length places = omega (arith, first.within, counted) in
        let here = place_passes n k l in
        (l, here.0, repeat_at k l first.repeats, λ p low. by p low here.0 l (repeat p) refl)
      where
        by : (p : ℕ) → p < place k → place k < n → k < length places → (b : Bool) → repeat p ≡ b → repeat p ≡ false
        by p low below l true e =
            let j = repeats_by p (omega (arith, low, below)) e in
            absurd (first.first j.0 (earlier j.0 k l (omega (arith, low, j.2)) (cases_lt j.0 k) j.1) j.3)
        by p low below l false e = e

-- where no row before a place has a reason, none is bad
pub first_below-all : (reason : ℕ → Option Why) (n : ℕ) → ((p : ℕ) → p < n → reason p ≡ None) → first_below reason n ≡ None
first_below-all reason zero none = refl
first_below-all reason (suc n) none =
    ap (λ b. first_of b (at_place n (reason n))) (first_below-all reason n (λ p l. none p (omega (arith, l)))) ∙ ap (at_place n) (none n (omega arith))

-- The first bad row, where rows have reasons of their own and are repeats.
module _ (reason own : ℕ → Option Why) (repeat : ℕ → Bool)
    (by_itself : (p : ℕ) (why : Why) → own p ≡ Some why → reason p ≡ Some why)
    (by_repeat : (p : ℕ) → own p ≡ None → reason p ≡ cond (repeat p) (Some RepeatedSequence) None) where
  none_before : (n : ℕ) → first_below own n ≡ None → ((p : ℕ) → p < n → repeat p ≡ false) → first_below reason n ≡ None
  none_before n good apart =
      first_below-all reason n (λ p l. by_repeat p (first_below-none own n p l good) ∙ ap (λ b. cond b (Some RepeatedSequence) None) (apart p l))

  pub bad_by_repeat : (rows : List Row) (n place : ℕ) → n ≤ length rows → first_below own n ≡ None → place < n → repeat place ≡ true → ((p : ℕ) → p < place → repeat p ≡ false)
      → first_bad reason rows ≡ Some (place, RepeatedSequence)
  bad_by_repeat rows n place within good l here before =
      first_below-found reason place (max 1 (length rows)) RepeatedSequence (omega (arith, l, within))
      (none_before place (first_below-all own place (λ p low. first_below-none own n p (omega (arith, low, l)) good)) before)
      (by_repeat place (first_below-none own n place l good) ∙ ap (λ b. cond b (Some RepeatedSequence) None) here)

  pub bad_by_itself : (rows : List Row) (n : ℕ) (why : Why) → n < length rows → first_below own n ≡ None → own n ≡ Some why → ((p : ℕ) → p < n → repeat p ≡ false)
      → first_bad reason rows ≡ Some (n, why)
  bad_by_itself rows n why within good here apart =
      first_below-found reason n (max 1 (length rows)) why (omega (arith, within)) (none_before n good apart) (by_itself n why here)

  pub none_bad : (rows : List Row) (n : ℕ) → 0 < length rows → n ≡ length rows → first_below own n ≡ None → ((p : ℕ) → p < n → repeat p ≡ false) → first_bad reason rows ≡ None
  none_bad rows n header all good apart =
      let e : max 1 (length rows) ≡ n = omega (arith, header, all) in
      ap (first_below reason) e ∙ none_before n good apart

-- one more row is looked at
pub read_more : {V R : Type 0} (test : Row → Bool) (value : Row → V) (part : R → V) (read : Row → Option R) (rows : List Row) (place : ℕ) (before after : List V) (found : Option R)
    → ((row : Row) → option_to_list (option_map part (read row)) ≡ cond (test row) (value row ∷ []) []) → 1 ≤ place → place < length rows
    → before ≡ map value (filter test (rows_before place rows)) → found ≡ read (row_at rows place) → after ≡ before ++ option_to_list (option_map part found)
    → after ≡ map value (filter test (rows_before (place + 1) rows))
read_more test value part read rows place before after found says from within so_far is more =
    more
    ∙ ap (λ front. front ++ option_to_list (option_map part found)) so_far
    ∙ ap (λ back. map value (filter test (rows_before place rows)) ++ back) (ap (λ r. option_to_list (option_map part r)) is ∙ says (row_at rows place) ∙ last (test (row_at rows place)))
    ∙ sym (map-append value (filter test (rows_before place rows)) (filter test (row_at rows place ∷ [])))
    ∙ ap (map value) (sym (filter_before test place rows from within))
  where
    last : (b : Bool) → cond b (value (row_at rows place) ∷ []) [] ≡ map value (cond b (row_at rows place ∷ []) [])
    last true = refl
    last false = refl

-- its place is noted, where it passes
pub place_more : {R : Type 0} (test : Row → Bool) (read : Row → Option R) (rows : List Row) (place : ℕ) (before after : List ℕ) (found : Option R)
    → ((row : Row) → is_some (read row) ≡ test row) → 1 ≤ place
    → before ≡ places_before test place rows → found ≡ read (row_at rows place) → after ≡ before ++ option_to_list (option_map (λ _. place) found)
    → after ≡ places_before test (place + 1) rows
place_more test read rows zero before after found says from so_far is more = absurd (omega (arith, from))
place_more test read rows (suc n) before after found says from so_far is more =
    let next : suc n + 1 ≡ suc (suc n) = omega arith in
    more
    ∙ ap (λ front. front ++ option_to_list (option_map (λ _. suc n) found)) so_far
    ∙ ap (λ back. places_before test (suc n) rows ++ back) (one found ∙ ap (λ b. cond b (suc n ∷ []) []) (ap is_some is ∙ says (row_at rows (suc n))))
    ∙ ap (λ (m : ℕ). places_before test m rows) (sym next)
  where
    one : {R : Type 0} (found : Option R) → option_to_list (option_map (λ _. suc n) found) ≡ cond (is_some found) (suc n ∷ []) []
    one None = refl
    one (Some r) = refl

pub length-filtered : {A : Type 0} (test : A → Bool) (xs : List A) → length (filter test xs) ≤ length xs
length-filtered test [] = omega arith
length-filtered test (x ∷ xs) = by (test x) (length-filtered test xs)
  where
    by : (b : Bool) → length (filter test xs) ≤ length xs → length (cond b (x ∷ filter test xs) (filter test xs)) ≤ length (x ∷ xs)
    by true h = omega (arith, h)
    by false h = omega (arith, h)

-- there are no more of them than rows
pub few_read : {V : Type 0} (test : Row → Bool) (value : Row → V) (place : ℕ) (rows : List Row) (most : ℕ) (read : List V) → length rows ≤ most
    → read ≡ map value (filter test (rows_before place rows)) → length read ≤ most
few_read test value place rows most read l is =
    omega (
      arith,
      l,
      ap length is,
      length-map (filter test (rows_before place rows)) value,
      length-filtered test (rows_before place rows),
      length-drop 1 (take place rows),
      length-take place rows,
    )

pub counted_places : (test : Row → Bool) (rows : List Row) (n : ℕ) → n ≤ length rows → (entry : Row → Entry) → length (map entry (filter test (rows_before n rows))) ≡ length (places_before test n rows)
counted_places test rows n within entry =
    length-map (filter test (rows_before n rows)) entry ∙ ap length (sym (rows_at_places test n rows within)) ∙ length-map (places_before test n rows) (row_at rows)
