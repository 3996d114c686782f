-- Pieces of a list: how many there are, what each of them is, and one more.
use Rattle.std.proofs.Common.{◌≡◌, ℕ, zero, suc, ◌+◌, ◌-◌, ◌<◌, ◌≤◌, List, [], ◌∷◌, ◌++◌, length, get_or, take, drop, refl, sym, ap, ◌∙◌, arith, length-append, length-drop}
use Rattle.std.proofs.lemmas.List.{drop_at, take_all, take-append-le, drop-append-le, get_or-take, get_or-drop, length-take-le}
use Rattle.gtfs_fields.specs.Pieces.{cut, Covers}

pub length-cut : {A : Type 0} (start : ℕ) (ends : List ℕ) (items : List A) → length (cut start ends items) ≡ length ends
length-cut start [] items = refl
length-cut start (end ∷ ends) items = ap suc (length-cut end ends items)

-- the places stay at or below the size
pub Covers-le : (start : ℕ) (ends : List ℕ) (size : ℕ) → Covers start ends size → start ≤ size
Covers-le start [] size covers = omega (arith, covers)
Covers-le start (end ∷ ends) size covers = omega (arith, covers.0, Covers-le end ends size covers.1)

-- one more piece, which ends at the new size
pub Covers-push : (start : ℕ) (ends : List ℕ) (size more : ℕ) → Covers start ends size → size ≤ more → Covers start (ends ++ more ∷ []) more
Covers-push start [] size more covers grows = (omega (arith, covers), refl)
Covers-push start (end ∷ ends) size more covers grows = (covers.0, Covers-push end ends size more covers.1 grows)

pub Covers-bounds : (start : ℕ) (ends : List ℕ) (size place : ℕ) → Covers start ends size → place < length ends
    → (get_or (start ∷ ends) place 0 ≤ get_or ends place 0) × (get_or ends place 0 ≤ size)
Covers-bounds start [] size place covers within = absurd (omega arith)
Covers-bounds start (end ∷ ends) size zero covers within = (covers.0, Covers-le end ends size covers.1)
Covers-bounds start (end ∷ ends) size (suc place) covers within = Covers-bounds end ends size place covers.1 (omega arith)

-- the items behind the last piece make one more piece
pub cut-push : {A : Type 0} (start : ℕ) (ends : List ℕ) (items more : List A) (size : ℕ) → Covers start ends (length items) → size ≡ length items + length more
    → cut start (ends ++ size ∷ []) (items ++ more) ≡ cut start ends items ++ more ∷ []
cut-push start [] items more size covers is =
    rw (drop_at items more start (sym covers), take_all (size - start) more (omega (arith, covers))) refl
cut-push start (end ∷ ends) items more size covers is =
    let low = Covers-le end ends (length items) covers.1 in
    let first = covers.0 in
    let front : take (end - start) (drop start (items ++ more)) ≡ take (end - start) (drop start items) =
    rw (drop-append-le start items more (omega arith), take-append-le (end - start) (drop start items) more (omega (arith, length-drop start items))) refl in
    rw (front, cut-push end ends items more size covers.1 is) refl

-- a piece by its place
pub get_or-cut : {A : Type 0} (start : ℕ) (ends : List ℕ) (items : List A) (place : ℕ) (d : List A) → place < length ends
    → get_or (cut start ends items) place d ≡ take (get_or ends place 0 - get_or (start ∷ ends) place 0) (drop (get_or (start ∷ ends) place 0) items)
get_or-cut start [] items place d within = absurd (omega arith)
get_or-cut start (end ∷ ends) items zero d within = refl
get_or-cut start (end ∷ ends) items (suc place) d within = get_or-cut end ends items place d (omega arith)

-- how long a piece is
pub length_piece : {A : Type 0} (start : ℕ) (ends : List ℕ) (items : List A) (place : ℕ) (d : List A) → Covers start ends (length items) → place < length ends
    → length (get_or (cut start ends items) place d) ≡ get_or ends place 0 - get_or (start ∷ ends) place 0
length_piece start ends items place d covers within =
    let bounds = Covers-bounds start ends (length items) place covers within in
    rw (get_or-cut start ends items place d within) (length-take-le _ _ (omega (arith, bounds.0, bounds.1, length-drop (get_or (start ∷ ends) place 0) items)))

-- an item of a piece
pub get_or-piece : {A : Type 0} (start : ℕ) (ends : List ℕ) (items : List A) (place : ℕ) (d : List A) (i : ℕ) (e : A) → place < length ends
    → i < get_or ends place 0 - get_or (start ∷ ends) place 0
    → get_or (get_or (cut start ends items) place d) i e ≡ get_or items (get_or (start ∷ ends) place 0 + i) e
get_or-piece start ends items place d i e within low =
    rw (get_or-cut start ends items place d within, get_or-take _ (drop (get_or (start ∷ ends) place 0) items) i e low, get_or-drop) refl

-- the two lists after one more piece
pub pushed_covers : {A : Type 0} (ends ends2 : List ℕ) (items items2 more : List A) (size : ℕ) → Covers 0 ends (length items) → ends2 ≡ ends ++ size ∷ [] → items2 ≡ items ++ more
    → size ≡ length items + length more → Covers 0 ends2 (length items2)
pushed_covers ends ends2 items items2 more size covers ends_are items_are is =
    let grown : length items2 ≡ size = omega (arith, ap length items_are, length-append items more) in
    rw (grown, ends_are) (Covers-push 0 ends (length items) size covers (omega arith))

pub pushed_cut : {A : Type 0} (ends ends2 : List ℕ) (items items2 more : List A) (size : ℕ) → Covers 0 ends (length items) → ends2 ≡ ends ++ size ∷ [] → items2 ≡ items ++ more
    → size ≡ length items + length more → cut 0 ends2 items2 ≡ cut 0 ends items ++ more ∷ []
pushed_cut ends ends2 items items2 more size covers ends_are items_are is =
    rw (ends_are, items_are) (cut-push 0 ends items more size covers is)

-- a place among the pieces is a place among their ends
pub cut_within : {A : Type 0} (ends : List ℕ) (items : List A) (now : List (List A)) (place : ℕ) → cut 0 ends items ≡ now → place < length now → place < length ends
cut_within ends items now place is low = omega (arith, ap length is, length-cut 0 ends items)

-- a piece that starts and ends at these places
pub record IsPiece {A : Type 0} (items : List A) (piece : List A) (start end : ℕ) : Type 0 where
  pub rises : start ≤ end
  pub fits : end ≤ length items
  pub is : piece ≡ take (end - start) (drop start items)
  pub size : length piece ≡ end - start

pub piece_at : {A : Type 0} (ends : List ℕ) (items : List A) (now : List (List A)) (place : ℕ) (e : List ℕ) (start end : ℕ) → cut 0 ends items ≡ now → Covers 0 ends (length items)
    → place < length now → e ≡ ends → start ≡ get_or (0 ∷ e) place 0 → end ≡ get_or e place 0 → IsPiece items (get_or now place []) start end
piece_at ends items now place e start end is covers low same start_is end_is =
    let within = cut_within ends items now place is low in
    let bounds = Covers-bounds 0 ends (length items) place covers within in
    let from : start ≡ get_or (0 ∷ ends) place 0 = start_is ∙ ap (λ (x : List ℕ). get_or (0 ∷ x) place 0) same in
    let to : end ≡ get_or ends place 0 = end_is ∙ ap (λ (x : List ℕ). get_or x place 0) same in
    record {
      rises = omega arith;
      fits = omega arith;
      is = rw (← is, from, to) (get_or-cut 0 ends items place [] within);
      size = rw (← is, from, to) (length_piece 0 ends items place [] covers within);
    }

-- an item of a piece
pub piece_item : {A : Type 0} (items piece : List A) (start end i : ℕ) (d : A) → IsPiece items piece start end → i < length piece → get_or piece i d ≡ get_or items (start + i) d
piece_item items piece start end i d p low =
    rw (p.is, get_or-take (end - start) (drop start items) i d (omega (arith, p.size)), get_or-drop) refl
