-- Lists of terms by spots.
use mathlib.Core.Bool.{beq}
use Rattle.std.proofs.Common.{◌≡◌, ◌≢◌, ℕ, zero, suc, ◌+◌, ◌<◌, ◌≤◌, ◌==◌, ◌&&◌, ◌||◌, not, Bool, true, false, cond, List, [], ◌∷◌, ◌++◌, length, set, get_or, append-nil, refl, sym, ◌∙◌, ap, arith, Option, Some, None, true≢false, eqb-true, eq-eqb}
use Rattle.std.specs.Prelude.{nat_lt, position}
use Rattle.std.specs.List.{All, list_any, position_or_len}
use Rattle.std.proofs.lemmas.Bool.{and_parts, eqb-false, ne_eqb, ltb-false}
use Rattle.std.proofs.lemmas.List.Elements.{All-nil, All-cons}
use Rattle.std.proofs.lemmas.List.Sums.{prefix_len-le-length}
use Rattle.map_base.specs.declared.ids.SegId.{SegId}
use Rattle.map_base.specs.declared.ids.LineId.{LineId}
use Rattle.order_model.specs.declared.term.Term.{Term}
use Rattle.order_model.specs.declared.term.Term.TheVariants.{Side, Link, Apart}
use Rattle.order_model.specs.Problems.{IsTerm}
use Rattle.order_check.specs.declared.slot.PartTerm.{PartTerm}
use Rattle.order_check.specs.declared.spot.Spot.{Spot}
use Rattle.order_check.specs.declared.spot.SpotTerm.{SpotTerm}
use Rattle.order_check.specs.Spots.{is_either, is_at, is_spot, listed, pair_term, spot_term, terms_at, with_term, AreTwo, IsSpotTable}

-- the lines of a term of a problem are two, and so are its segments
pub two_of_term : (segs : List (List LineId)) (t : Term) → IsTerm segs t → AreTwo t
two_of_term segs (Side seg first second w) fits = fits.differ
two_of_term segs (Link seg other flip a b w) fits = ((λ e. omega (arith, e, fits.a_below)), λ e. omega (arith, e, fits.seg_below))
two_of_term segs (Apart seg other a b w) fits = ((λ e. omega (arith, e, fits.a_below)), λ e. omega (arith, e, fits.seg_below))

one_more : (n : ℕ) → 1 + n ≡ suc n
one_more n = omega arith

-- Spots that are the same.

same_kind : (x y : Bool) → beq x y ≡ true → x ≡ y
same_kind true true e = refl
same_kind true false e = sym e
same_kind false true e = e
same_kind false false e = refl

same_spot : (u v : Spot) → is_spot u v ≡ true → u ≡ v
same_spot u v h =
    let both = and_parts (u.seg.0 == v.seg.0) (beq u.apart v.apart && (u.line.0 == v.line.0)) h in
    let more = and_parts (beq u.apart v.apart) (u.line.0 == v.line.0) both.1 in
    ap (λ n. let s : Spot = record { seg = record { 0 = n }; apart = u.apart; line = u.line } in s) (eqb-true u.seg.0 v.seg.0 both.0)
    ∙ ap (λ b. let s : Spot = record { seg = v.seg; apart = b; line = u.line } in s) (same_kind u.apart v.apart more.0)
    ∙ ap (λ n. let s : Spot = record { seg = v.seg; apart = v.apart; line = record { 0 = n } } in s) (eqb-true u.line.0 v.line.0 more.1)

eqb_turned : (a b : ℕ) → (a == b) ≡ (b == a)
eqb_turned a b = by_test (a == b) refl
  where
    by_test : (t : Bool) → (a == b) ≡ t → t ≡ (b == a)
    by_test true e = sym (eq-eqb b a (sym (eqb-true a b e)))
    by_test false e = sym (ne_eqb b a (λ h. eqb-false a b e (sym h)))

kind_turned : (x y : Bool) → beq x y ≡ beq y x
kind_turned true true = refl
kind_turned true false = refl
kind_turned false true = refl
kind_turned false false = refl

spot_turned : (u v : Spot) → is_spot u v ≡ is_spot v u
spot_turned u v =
    ap (λ b. b && (beq u.apart v.apart && (u.line.0 == v.line.0))) (eqb_turned u.seg.0 v.seg.0)
    ∙ ap (λ b. (v.seg.0 == u.seg.0) && (b && (u.line.0 == v.line.0))) (kind_turned u.apart v.apart)
    ∙ ap (λ b. (v.seg.0 == u.seg.0) && (beq v.apart u.apart && b)) (eqb_turned u.line.0 v.line.0)

-- The list of a spot.

listed_place : (spots : List Spot) (lists : List (List SpotTerm)) (u : Spot) → length lists ≡ length spots → listed spots lists u ≡ get_or lists (position_or_len (is_spot u) spots) []
listed_place [] [] u each = refl
listed_place [] (l ∷ lists) u each = absurd (omega (arith, each))
listed_place (s ∷ spots) [] u each = refl
listed_place (s ∷ spots) (l ∷ lists) u each = by_test (is_spot u s) (listed_place spots lists u (omega (arith, each)))
  where
    by_test : (b : Bool) → listed spots lists u ≡ get_or lists (position_or_len (is_spot u) spots) []
        → cond b l (listed spots lists u) ≡ get_or (l ∷ lists) (cond (not b) (1 + position_or_len (is_spot u) spots) 0) []
    by_test true rest = refl
    by_test false rest = rest ∙ ap (λ n. get_or (l ∷ lists) n []) (sym (one_more (position_or_len (is_spot u) spots)))

pub listed_at : (spots : List Spot) (lists : List (List SpotTerm)) (u : Spot) (k : ℕ) → length lists ≡ length spots → position (is_spot u) spots ≡ Some k → listed spots lists u ≡ get_or lists k []
listed_at spots lists u k each found = listed_place spots lists u each ∙ ap (λ n. get_or lists n []) (by_test (nat_lt (position_or_len (is_spot u) spots) (length spots)) found)
  where
    by_test : (b : Bool) → cond b (Some (position_or_len (is_spot u) spots)) None ≡ Some k → position_or_len (is_spot u) spots ≡ k
    by_test true e = ap unwrap e
      where
        unwrap : Option ℕ → ℕ
        unwrap None = 0
        unwrap (Some n) = n
    by_test false e = absurd (true≢false (sym (ap is_there e)))
      where
        is_there : Option ℕ → Bool
        is_there None = false
        is_there (Some n) = true

pub listed_none : (spots : List Spot) (lists : List (List SpotTerm)) (u : Spot) → length lists ≡ length spots → position (is_spot u) spots ≡ None → listed spots lists u ≡ []
listed_none spots lists u each found = listed_place spots lists u each ∙ beyond lists (position_or_len (is_spot u) spots) (by_test (nat_lt (position_or_len (is_spot u) spots) (length spots)) refl found)
  where
    by_test : (b : Bool) → nat_lt (position_or_len (is_spot u) spots) (length spots) ≡ b → cond b (Some (position_or_len (is_spot u) spots)) None ≡ None → length lists ≤ position_or_len (is_spot u) spots
    by_test true e f = absurd (true≢false (ap is_there f))
      where
        is_there : Option ℕ → Bool
        is_there None = false
        is_there (Some n) = true
    by_test false e f = omega (arith, each, ltb-false (position_or_len (is_spot u) spots) (length spots) e)

    beyond : (lists : List (List SpotTerm)) (n : ℕ) → length lists ≤ n → get_or lists n [] ≡ []
    beyond [] n over = refl
    beyond (l ∷ lists) zero over = absurd (omega (arith, over))
    beyond (l ∷ lists) (suc n) over = beyond lists n (omega (arith, over))

pub place_within : (spots : List Spot) (u : Spot) → position_or_len (is_spot u) spots ≤ length spots
place_within spots u = prefix_len-le-length (λ s. not (is_spot u s)) spots

-- A term is added at a spot.

abbrev pub noted : List Spot → Spot → List Spot
noted spots s = cond (list_any (is_spot s) spots) spots (spots ++ s ∷ [])

noted_later : (b : Bool) (k s : Spot) (spots : List Spot) → cond b (k ∷ spots) ((k ∷ spots) ++ s ∷ []) ≡ k ∷ cond b spots (spots ++ s ∷ [])
noted_later true k s spots = refl
noted_later false k s spots = refl

pub with_each : (spots : List Spot) (lists : List (List SpotTerm)) (s : Spot) (t : SpotTerm) → length lists ≡ length spots
    → length (with_term lists (position_or_len (is_spot s) spots) t) ≡ length (noted spots s)
with_each [] [] s t each = refl
with_each [] (l ∷ lists) s t each = absurd (omega (arith, each))
with_each (k ∷ spots) [] s t each = absurd (omega (arith, each))
with_each (k ∷ spots) (l ∷ lists) s t each = by_test (is_spot s k) (with_each spots lists s t (omega (arith, each)))
  where
    by_test : (b : Bool) → length (with_term lists (position_or_len (is_spot s) spots) t) ≡ length (noted spots s)
        → length (with_term (l ∷ lists) (cond (not b) (1 + position_or_len (is_spot s) spots) 0) t)
        ≡ length (let r : List Spot = cond (b || list_any (is_spot s) spots) (k ∷ spots) ((k ∷ spots) ++ s ∷ []) in r)
    by_test true rest = omega (arith, each)
    by_test false rest =
        ap (λ n. length (with_term (l ∷ lists) n t)) (one_more (position_or_len (is_spot s) spots))
        ∙ omega (arith, rest, ap length (noted_later (list_any (is_spot s) spots) k s spots))

pub listed_more : (spots : List Spot) (lists : List (List SpotTerm)) (s : Spot) (t : SpotTerm) (u : Spot) → length lists ≡ length spots
    → listed (noted spots s) (with_term lists (position_or_len (is_spot s) spots) t) u ≡ listed spots lists u ++ cond (is_spot s u) (t ∷ []) []
listed_more [] [] s t u each = ap (λ b. cond b (t ∷ []) []) (spot_turned u s)
listed_more [] (l ∷ lists) s t u each = absurd (omega (arith, each))
listed_more (k ∷ spots) [] s t u each = absurd (omega (arith, each))
listed_more (k ∷ spots) (l ∷ lists) s t u each = by_test (is_spot s k) refl (listed_more spots lists s t u (omega (arith, each)))
  where
    own : List SpotTerm
    own = cond (is_spot s u) (t ∷ []) []

    here : (b : Bool) → is_spot k u ≡ b → is_spot u k ≡ b → cond b (l ++ t ∷ []) (listed spots lists u) ≡ cond b l (listed spots lists u) ++ cond (is_spot k u) (t ∷ []) []
    here true e f = ap (λ c. l ++ cond c (t ∷ []) []) (sym e)
    here false e f = sym (ap (λ c. listed spots lists u ++ cond c (t ∷ []) []) e ∙ append-nil (listed spots lists u))

    later : is_spot s k ≡ false → (b : Bool) → is_spot u k ≡ b → cond b l (listed spots lists u ++ own) ≡ cond b l (listed spots lists u) ++ own
    later e false f = refl
    later e true f =
        let none : is_spot s u ≡ false = ap (is_spot s) (same_spot u k f) ∙ e in
        sym (ap (λ c. l ++ cond c (t ∷ []) []) none ∙ append-nil l)

    by_test : (b : Bool) → is_spot s k ≡ b → listed (noted spots s) (with_term lists (position_or_len (is_spot s) spots) t) u ≡ listed spots lists u ++ own
        → listed (cond (b || list_any (is_spot s) spots) (k ∷ spots) ((k ∷ spots) ++ s ∷ [])) (with_term (l ∷ lists) (cond (not b) (1 + position_or_len (is_spot s) spots) 0) t) u
        ≡ cond (is_spot u k) l (listed spots lists u) ++ own
    by_test true e rest =
        let same : k ≡ s = sym (same_spot s k e) in
        here (is_spot u k) (spot_turned k u) refl ∙ ap (λ (v : Spot). cond (is_spot u k) l (listed spots lists u) ++ cond (is_spot v u) (t ∷ []) []) same
    by_test false e rest =
        ap (λ n. listed (cond (list_any (is_spot s) spots) (k ∷ spots) ((k ∷ spots) ++ s ∷ [])) (with_term (l ∷ lists) n t) u) (one_more (position_or_len (is_spot s) spots))
        ∙ ap (λ ks. listed ks (l ∷ with_term lists (position_or_len (is_spot s) spots) t) u) (noted_later (list_any (is_spot s) spots) k s spots)
        ∙ ap (λ r. cond (is_spot u k) l r) rest
        ∙ later e (is_spot u k) refl

-- a term is added to one of the lists, or begins a new one
pub with_new : (lists : List (List SpotTerm)) (k : ℕ) (t : SpotTerm) → k ≡ length lists → lists ++ (t ∷ []) ∷ [] ≡ with_term lists k t
with_new [] k t e = refl
with_new (l ∷ lists) zero t e = absurd (omega (arith, e))
with_new (l ∷ lists) (suc k) t e = ap (λ r. l ∷ r) (with_new lists k t (omega (arith, e)))

pub with_at : (lists : List (List SpotTerm)) (k : ℕ) (t : SpotTerm) → k < length lists → set lists k (get_or lists k [] ++ t ∷ []) ≡ with_term lists k t
with_at [] k t below = absurd (omega (arith, below))
with_at (l ∷ lists) zero t below = refl
with_at (l ∷ lists) (suc k) t below = ap (λ r. l ∷ r) (with_at lists k t (omega (arith, below)))

-- A term is added at two spots, of which no spot is both.

joined : (old : List SpotTerm) (t : SpotTerm) (x y : Bool) → (x && y) ≡ false → (old ++ cond x (t ∷ []) []) ++ cond y (t ∷ []) [] ≡ old ++ cond (x || y) (t ∷ []) []
joined old t true true h = absurd (true≢false h)
joined old t true false h = append-nil (old ++ t ∷ [])
joined old t false true h = ap (λ l. l ++ t ∷ []) (append-nil old)
joined old t false false h = append-nil (old ++ [])

not_both : (a b c : ℕ) → a ≢ b → ((a == c) && (b == c)) ≡ false
not_both a b c differ = by_test (a == c) refl
  where
    by_test : (t : Bool) → (a == c) ≡ t → (t && (b == c)) ≡ false
    by_test false e = refl
    by_test true e = ne_eqb b c (λ h. differ (eqb-true a c e ∙ sym h))

pub on_two_lines : (seg : SegId) (apart : Bool) (a b : LineId) (n : ℕ) (u : Spot) (old : List SpotTerm) → a.0 ≢ b.0
    → (old ++ cond ((seg.0 == u.seg.0) && (beq apart u.apart && (a.0 == u.line.0))) ((let t : SpotTerm = record { place = n; other = b } in t) ∷ []) [])
    ++ cond ((seg.0 == u.seg.0) && (beq apart u.apart && (b.0 == u.line.0))) ((let t : SpotTerm = record { place = n; other = a } in t) ∷ []) []
    ≡ old ++ cond ((seg.0 == u.seg.0) && (beq apart u.apart && is_either a b u.line)) (pair_term n a b u ∷ []) []
on_two_lines seg apart a b n u old differ = by_test (seg.0 == u.seg.0) (beq apart u.apart) (a.0 == u.line.0) (b.0 == u.line.0) (not_both a.0 b.0 u.line.0 differ)
  where
    with_other : LineId → SpotTerm
    with_other l = record { place = n; other = l }

    by_test : (c d x y : Bool) → (x && y) ≡ false
        → (old ++ cond (c && (d && x)) (with_other b ∷ []) []) ++ cond (c && (d && y)) (with_other a ∷ []) [] ≡ old ++ cond (c && (d && (x || y))) (with_other (cond x b a) ∷ []) []
    by_test true true true true h = absurd (true≢false h)
    by_test true true true false h = append-nil (old ++ with_other b ∷ [])
    by_test true true false true h = ap (λ l. l ++ with_other a ∷ []) (append-nil old)
    by_test true true false false h = append-nil (old ++ [])
    by_test true false x y h = append-nil (old ++ [])
    by_test false d x y h = append-nil (old ++ [])

pub on_two_segments : (seg other : SegId) (e : Bool) (t : SpotTerm) (u : Spot) (old : List SpotTerm) → seg.0 ≢ other.0
    → (old ++ cond ((seg.0 == u.seg.0) && e) (t ∷ []) []) ++ cond ((other.0 == u.seg.0) && e) (t ∷ []) []
    ≡ old ++ cond (((seg.0 == u.seg.0) || (other.0 == u.seg.0)) && e) (t ∷ []) []
on_two_segments seg other e t u old apart =
    joined old t ((seg.0 == u.seg.0) && e) ((other.0 == u.seg.0) && e) (by_both (seg.0 == u.seg.0) (other.0 == u.seg.0) e (not_both seg.0 other.0 u.seg.0 apart))
    ∙ ap (λ c. old ++ cond c (t ∷ []) []) (by_either (seg.0 == u.seg.0) (other.0 == u.seg.0) e)
  where
    by_both : (x y z : Bool) → (x && y) ≡ false → ((x && z) && (y && z)) ≡ false
    by_both true true z h = absurd (true≢false h)
    by_both true false true h = refl
    by_both true false false h = refl
    by_both false y z h = refl

    by_either : (x y z : Bool) → ((x && z) || (y && z)) ≡ ((x || y) && z)
    by_either true true true = refl
    by_either true true false = refl
    by_either true false true = refl
    by_either true false false = refl
    by_either false y z = refl

-- the only segment of a Side
pub side_at : (seg : SegId) (first second : LineId) (w : ℕ) (u : Spot) → ((seg.0 == u.seg.0) && (beq false u.apart && is_either first second u.line)) ≡ is_at u (Side seg first second w)
side_at seg first second w u = by_test (seg.0 == u.seg.0)
  where
    by_test : (b : Bool) → (b && (beq false u.apart && is_either first second u.line)) ≡ ((b || b) && (beq false u.apart && is_either first second u.line))
    by_test true = refl
    by_test false = refl

-- The table, term by term.

at_more : (u : Spot) (n m : ℕ) (terms : List PartTerm) (t : PartTerm) → m ≡ n + length terms → terms_at u n (terms ++ t ∷ []) ≡ terms_at u n terms ++ cond (is_at u t.term) (spot_term m u t.term ∷ []) []
at_more u n m [] t e =
    let same : n ≡ m = omega (arith, e) in
    ap (λ k. cond (is_at u t.term) (spot_term k u t.term ∷ []) []) same
at_more u n m (s ∷ terms) t e = by_test (is_at u s.term) (at_more u (suc n) m terms t (omega (arith, e)))
  where
    own : List SpotTerm
    own = cond (is_at u t.term) (spot_term m u t.term ∷ []) []

    by_test : (b : Bool) → terms_at u (suc n) (terms ++ t ∷ []) ≡ terms_at u (suc n) terms ++ own
        → cond b (spot_term n u s.term ∷ terms_at u (suc n) (terms ++ t ∷ [])) (terms_at u (suc n) (terms ++ t ∷ []))
        ≡ cond b (spot_term n u s.term ∷ terms_at u (suc n) terms) (terms_at u (suc n) terms) ++ own
    by_test true rest = ap (λ l. spot_term n u s.term ∷ l) rest
    by_test false rest = rest

pub at_within : (u : Spot) (n m : ℕ) (terms : List PartTerm) → m ≡ n + length terms → All (λ (t : SpotTerm). t.place < m) (terms_at u n terms)
at_within u n m [] e = All-nil (λ (t : SpotTerm). t.place < m)
at_within u n m (s ∷ terms) e = by_test (is_at u s.term) (at_within u (suc n) m terms (omega (arith, e)))
  where
    by_test : (b : Bool) → All (λ (t : SpotTerm). t.place < m) (terms_at u (suc n) terms)
        → All (λ (t : SpotTerm). t.place < m) (cond b (spot_term n u s.term ∷ terms_at u (suc n) terms) (terms_at u (suc n) terms))
    by_test true rest = All-cons (λ (t : SpotTerm). t.place < m) (spot_term n u s.term) (terms_at u (suc n) terms) (omega (arith, e)) rest
    by_test false rest = rest

pub table_listed : (table after : List PartTerm) (t : PartTerm) (k : ℕ) (spots fresh : List Spot) (lists more : List (List SpotTerm)) → IsSpotTable table spots lists → after ≡ table ++ t ∷ []
    → k ≡ length table → length more ≡ length fresh → ((u : Spot) → listed fresh more u ≡ listed spots lists u ++ cond (is_at u t.term) (spot_term k u t.term ∷ []) [])
    → IsSpotTable after fresh more
table_listed table after t k spots fresh lists more ok pushed last each added = record {
  each = each;
  at = λ u. added u ∙ ap (λ l. l ++ cond (is_at u t.term) (spot_term k u t.term ∷ []) []) (ok.at u)
      ∙ sym (at_more u 0 k table t (omega (arith, last))) ∙ ap (terms_at u 0) (sym pushed);
}
