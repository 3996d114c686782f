-- Rows whose fields are ASCII, and bytes that are UTF-8.
use Rattle.std.proofs.Common.{◌≡◌, ◌<◌, ◌≤◌, ◌+◌, ◌-◌, ◌⊎◌, inl, inr, ℕ, zero, suc, Bool, true, false, ◌&&◌, List, [], ◌∷◌, length, get_or, take, drop, ap, ◌∙◌, refl, sym, subst, arith, Result, Ok, Err, is_ok, MatchResult, IsUtf8}
use Rattle.std.proofs.lemmas.Bool.{cases_lt}
use Rattle.std.proofs.lemmas.List.{get_or_past, get_or-take, get_or-drop}
use Rattle.std.proofs.lemmas.Str.{IsUtf8-from_is_utf8, is_utf8-from_IsUtf8, IsUtf8-from_ascii}
use Rattle.std.specs.List.{list_all}
use Rattle.std.specs.Str.{is_utf8, IsAscii}
use Rattle.gtfs_fields.specs.Pieces.{cut, Covers}
use Rattle.gtfs_fields.specs.Records.{is_text}
use Rattle.gtfs_fields.proofs.Cuts.{IsPiece, piece_at, piece_item, Covers-bounds, length-cut}

-- `is_ok` of a call of `from_utf8`
pub is_utf8-is_ok : {A E : Type 0} (P : A → Type 0) (Q : E → Type 0) (bytes : List ℕ) (r : Result A E)
    → MatchResult r (λ s. P s × IsUtf8 bytes) (λ e. (¬ (IsUtf8 bytes)) × Q e) → is_ok r ≡ is_utf8 bytes
is_utf8-is_ok P Q bytes (Ok s) h = sym (is_utf8-from_IsUtf8 bytes h.1)
is_utf8-is_ok P Q bytes (Err e) h = by (is_utf8 bytes) refl
  where
    by : (b : Bool) → is_utf8 bytes ≡ b → false ≡ b
    by true e = absurd (h.0 (IsUtf8-from_is_utf8 bytes e))
    by false e = refl

-- a test that holds at each place
pub all_from_places : {X : Type 0} (p : X → Bool) (xs : List X) (d : X) → ((k : ℕ) → k < length xs → p (get_or xs k d) ≡ true) → list_all p xs ≡ true
all_from_places p [] d h = refl
all_from_places p (x ∷ xs) d h =
    ap (λ (b : Bool). b && list_all p xs) (h 0 (omega arith)) ∙ all_from_places p xs d (λ k l. h (suc k) (omega (arith, l)))

-- places of ends do not fall
pub ends_rise : (start : ℕ) (ends : List ℕ) (size i j : ℕ) → Covers start ends size → i ≤ j → j < length ends → get_or ends i 0 ≤ get_or ends j 0
ends_rise start [] size i j covers le l = absurd (omega (arith, l))
ends_rise start (end ∷ ends) size zero zero covers le l = omega arith
ends_rise start (end ∷ ends) size zero (suc j) covers le l =
    let here = Covers-bounds end ends size j covers.1 (omega (arith, l)) in
    low end ends size j covers.1 (omega (arith, l))
  where
    low : (end : ℕ) (ends : List ℕ) (size j : ℕ) → Covers end ends size → j < length ends → end ≤ get_or ends j 0
    low end [] size j covers l = absurd (omega (arith, l))
    low end (e ∷ es) size zero covers l = covers.0
    low end (e ∷ es) size (suc j) covers l = omega (arith, covers.0, low e es size j covers.1 (omega (arith, l)))
ends_rise start (end ∷ ends) size (suc i) zero covers le l = absurd (omega (arith, le))
ends_rise start (end ∷ ends) size (suc i) (suc j) covers le l = ends_rise end ends size i j covers.1 (omega (arith, le)) (omega (arith, l))

-- a piece within bytes that are ASCII
pub piece_ascii : (items piece : List ℕ) (from to start end : ℕ) → IsPiece items piece start end → from ≤ start → end ≤ to
    → IsAscii (take (to - from) (drop from items)) → IsAscii piece
piece_ascii items piece from to start end p low high ascii i = by (cases_lt i (length piece))
  where
    by : (i < length piece) ⊎ (length piece ≤ i) → get_or piece i 0 < 128
    by (inl l) =
        let k : ℕ = start - from + i in
        let place : from + k ≡ start + i = omega (arith, low) in
        let within : get_or (take (to - from) (drop from items)) k 0 ≡ get_or items (start + i) 0 =
        get_or-take (to - from) (drop from items) k 0 (omega (arith, l, p.size, p.rises, low, high)) ∙ get_or-drop from items k 0 ∙ ap (λ (n : ℕ). get_or items n 0) place in
        subst (λ (n : ℕ). n < 128) (within ∙ sym (piece_item items piece start end i 0 p l)) (ascii k)
    by (inr h) = subst (λ (n : ℕ). n < 128) (sym (get_or_past piece i 0 h)) (omega arith)

-- a row whose fields are ASCII is text
pub ascii_text : (row : List (List ℕ)) → ((k : ℕ) → k < length row → IsAscii (get_or row k [])) → is_text row ≡ true
ascii_text row h = all_from_places is_utf8 row [] (λ k l. is_utf8-from_IsUtf8 (get_or row k []) (IsUtf8-from_ascii (get_or row k []) (h k l)))

-- bytes that hold all pieces from one place up to another
pub record Spans (items : List ℕ) (pieces : List (List ℕ)) (from to start end : ℕ) : Type 0 where
  pub rises : start ≤ end
  pub fits : end ≤ length items
  pub ascii : IsAscii (take (end - start) (drop start items)) → (place : ℕ) → from ≤ place → place < to → IsAscii (get_or pieces place [])

pub spans : (ends items : List ℕ) (pieces : List (List ℕ)) (from to : ℕ) (e1 e2 : List ℕ) (start end : ℕ) → cut 0 ends items ≡ pieces → Covers 0 ends (length items)
    → from < to → to ≤ length pieces → e1 ≡ ends → e2 ≡ ends → start ≡ get_or (0 ∷ e1) from 0 → end ≡ get_or e2 (to - 1) 0 → Spans items pieces from to start end
spans ends items pieces from to e1 e2 start end is covers some within same1 same2 start_is end_is =
    let size : to ≤ length ends = omega (arith, within, ap length is, length-cut 0 ends items) in
    let first : start ≡ get_or (0 ∷ ends) from 0 = start_is ∙ ap (λ (x : List ℕ). get_or (0 ∷ x) from 0) same1 in
    let last : end ≡ get_or ends (to - 1) 0 = end_is ∙ ap (λ (x : List ℕ). get_or x (to - 1) 0) same2 in
    let begin = Covers-bounds 0 ends (length items) from covers (omega (arith, some, size)) in
    let far = ends_rise 0 ends (length items) from (to - 1) covers (omega (arith, some)) (omega (arith, some, size)) in
    let stop = Covers-bounds 0 ends (length items) (to - 1) covers (omega (arith, some, size)) in
    let with_zero : Covers 0 (0 ∷ ends) (length items) = (omega arith, covers) in
    record {
      rises = omega (arith, first, last, begin.0, far);
      fits = omega (arith, last, stop.1);
      ascii = λ ascii place low high.
          let piece = piece_at ends items pieces place ends (get_or (0 ∷ ends) place 0) (get_or ends place 0) is covers (omega (arith, high, within)) refl refl refl in
          let from_low = ends_rise 0 (0 ∷ ends) (length items) from place with_zero low (omega (arith, high, size)) in
          let to_high = ends_rise 0 ends (length items) place (to - 1) covers (omega (arith, high)) (omega (arith, some, size)) in
          piece_ascii items (get_or pieces place []) start end (get_or (0 ∷ ends) place 0) (get_or ends place 0) piece (omega (arith, first, from_low)) (omega (arith, last, to_high)) ascii;
    }

-- a row is a piece of the fields
pub row_ascii : (fields : List (List ℕ)) (row : List (List ℕ)) (start end : ℕ) → IsPiece fields row start end
    → ((place : ℕ) → start ≤ place → place < end → IsAscii (get_or fields place [])) → is_text row ≡ true
row_ascii fields row start end p h =
    ascii_text row
    (λ k l. subst IsAscii (sym (piece_item fields row start end k [] p l)) (h (start + k) (omega arith) (omega (arith, l, p.size, p.rises))))
