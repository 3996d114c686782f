-- Sets of doubled points, as tiles of flags.
use Rattle.std.proofs.Common.{◌≡◌, ℕ, zero, suc, ◌+◌, ◌*◌, ◌/◌, ◌%◌, ◌<◌, ◌≤◌, ◌⊎◌, inl, inr, Bool, true, false, cond, ◌&&◌, ℤ, unsigned_abs, List, [], ◌∷◌, length, replicate, get_or, set, refl, sym, ap, ◌∙◌, subst, arith, length-set, get_or-set_same, get_or-set_other}
use Rattle.std.proofs.lemmas.Int.{ints}
use Rattle.std.proofs.lemmas.Bool.{and_parts, and_from, cases_Bool, cases_eq, cases_lt, le-leb, leb-true, false≢true}
use Rattle.std.proofs.lemmas.List.{length-replicate, get_or_default, get_or_past}
use Rattle.octi_grid.specs.declared.point.GridPoint.{GridPoint}
use Rattle.octi_grid.specs.Ways.{are_one, IsDoubled}
use Rattle.octi_grid.specs.PointSets.{flag_of, holds, is_doubled, is_raised, offset, tile_of, AreTiles, IsTile, PointFlags}
use Rattle.octi_grid.proofs.WayLemmas.{same_point}
use Rattle.octi_grid.proofs.Members.{are_one_from, one_point}

-- a tile without flags
abbrev pub no_flags : List Bool
no_flags = []

pub no_tile : (n i : ℕ) → get_or (replicate n no_flags) i no_flags ≡ no_flags
no_tile zero i = refl
no_tile (suc n) zero = refl
no_tile (suc n) (suc i) = no_tile n i

pub no_flag : (n i : ℕ) → get_or (replicate n false) i false ≡ false
no_flag zero i = refl
no_flag (suc n) zero = refl
no_flag (suc n) (suc i) = no_flag n i

and_false : (b c : Bool) → c ≡ false → (b && c) ≡ false
and_false true c e = e
and_false false c e = refl

-- tiles that are not made have no points
pub none_held : (n : ℕ) (p : GridPoint) → holds (replicate n no_flags) p ≡ false
none_held n p = and_false (is_doubled p) _ (ap (λ (fs : List Bool). get_or fs (flag_of p) false) (no_tile n (tile_of p)))

pub AreTiles-none : (n : ℕ) → n ≡ 24649 → AreTiles (replicate n no_flags)
AreTiles-none n e = record { count = length-replicate n no_flags ∙ e; each = λ i. inl (ap (λ (fs : List Bool). length fs) (no_tile n i)) }

-- the numbers of tiles and flags
pub tile_below : (a b : ℕ) → a ≤ 40000 → b ≤ 40000 → a / 256 * 157 + b / 256 < 24649
tile_below a b h k = omega arith

pub flag_below : (a b : ℕ) → a % 256 * 256 + b % 256 < 65536
flag_below a b = omega arith

one_offset : (a b c d : ℕ) → a ≤ 40000 → b ≤ 40000 → c ≤ 40000 → d ≤ 40000 → a / 256 * 157 + b / 256 ≡ c / 256 * 157 + d / 256
    → a % 256 * 256 + b % 256 ≡ c % 256 * 256 + d % 256 → (a ≡ c) × (b ≡ d)
one_offset a b c d f g h k tiles flags = (omega arith, omega arith)

pub offset_within : (z : ℤ) → unsigned_abs z ≤ 20000 → offset z ≤ 40000
offset_within z h = omega (arith, ints)

same_offset : (y z : ℤ) → unsigned_abs y ≤ 20000 → unsigned_abs z ≤ 20000 → offset y ≡ offset z → y ≡ z
same_offset y z h k e = omega (arith, ints)

-- points of one number are one
pub one_number : (p q : GridPoint) → IsDoubled p → IsDoubled q → tile_of p ≡ tile_of q → flag_of p ≡ flag_of q → p ≡ q
one_number p q h k tiles flags =
    let parts =
    one_offset (offset p.x) (offset p.y) (offset q.x) (offset q.y) (offset_within p.x h.across) (offset_within p.y h.along) (offset_within q.x k.across) (offset_within q.y k.along) tiles flags in
    same_point (same_offset p.x q.x h.across k.across parts.0) (same_offset p.y q.y h.along k.along parts.1)

-- the test of the range
is_doubled-true : (p : GridPoint) → IsDoubled p → is_doubled p ≡ true
is_doubled-true p h = and_from _ _ (le-leb _ _ h.across) (le-leb _ _ h.along)

IsDoubled-from : (p : GridPoint) → is_doubled p ≡ true → IsDoubled p
IsDoubled-from p e =
    let parts = and_parts _ _ e in
    record { across = leb-true _ _ parts.0; along = leb-true _ _ parts.1 }

pub held : (tiles : PointFlags) (p : GridPoint) → IsDoubled p → holds tiles p ≡ is_raised tiles (tile_of p) (flag_of p)
held tiles p h = ap (λ b. b && is_raised tiles (tile_of p) (flag_of p)) (is_doubled-true p h)

-- tiles of the same flags hold the same points
pub same_held : (a b : PointFlags) (p : GridPoint) → ((t f : ℕ) → is_raised a t f ≡ is_raised b t f) → holds a p ≡ holds b p
same_held a b p e = ap (λ v. is_doubled p && v) (e (tile_of p) (flag_of p))

-- a tile that had no flags is made
pub read_none : (tiles : PointFlags) (tile n : ℕ) (flags : List Bool) → tile < length tiles → flags ≡ get_or tiles tile flags → n ≡ length flags → n ≤ 0 → length (get_or tiles tile []) ≡ 0
read_none tiles tile n flags below read e none = ap (λ (fs : List Bool). length fs) (sym (read ∙ get_or_default tiles tile flags no_flags below)) ∙ sym e ∙ (omega arith)

pub made_same : (tiles : PointFlags) (tile n : ℕ) (flags : List Bool) → tile < length tiles → length (get_or tiles tile []) ≡ 0 → flags ≡ replicate n false
    → (t f : ℕ) → is_raised (set tiles tile flags) t f ≡ is_raised tiles t f
made_same tiles tile n flags below none lowered t f = by_tile (cases_eq t tile)
  where
    empty : (fs : List Bool) → length fs ≡ 0 → fs ≡ []
    empty [] e = refl
    empty (v ∷ vs) e = absurd (omega arith)

    by_tile : (t ≡ tile) ⊎ (t ≡ tile → ⊥) → is_raised (set tiles tile flags) t f ≡ is_raised tiles t f
    by_tile (inl e) =
        ap (λ k. is_raised (set tiles tile flags) k f) e
        ∙ ap (λ (fs : List Bool). get_or fs f false) (get_or-set_same tiles tile flags no_flags below ∙ lowered)
        ∙ no_flag n f
        ∙ sym (ap (λ k. is_raised tiles k f) e ∙ ap (λ (fs : List Bool). get_or fs f false) (empty (get_or tiles tile []) none))
    by_tile (inr apart) = ap (λ (fs : List Bool). get_or fs f false) (get_or-set_other tiles tile t flags no_flags apart)

pub made_length : (tiles : PointFlags) (tile n : ℕ) (flags : List Bool) → tile < length tiles → flags ≡ replicate n false → length (get_or (set tiles tile flags) tile []) ≡ n
made_length tiles tile n flags below lowered =
    ap (λ (fs : List Bool). length fs) (get_or-set_same tiles tile flags no_flags below ∙ lowered) ∙ length-replicate n false

-- tiles of which one changed
pub AreTiles-set : (tiles : PointFlags) (tile : ℕ) (flags : List Bool) → AreTiles tiles → tile < 24649 → length flags ≡ 65536 → AreTiles (set tiles tile flags)
AreTiles-set tiles tile flags h below all = record {
  count = length-set tiles tile flags ∙ h.count;
  each = λ i. by_tile i (cases_eq i tile);
}
  where
    by_tile : (i : ℕ) → (i ≡ tile) ⊎ (i ≡ tile → ⊥) → IsTile (get_or (set tiles tile flags) i [])
    by_tile i (inl e) =
        inr (ap (λ k. length (get_or (set tiles tile flags) k [])) e ∙ ap (λ (fs : List Bool). length fs) (get_or-set_same tiles tile flags no_flags (subst (λ n. tile < n) (sym h.count) below)) ∙ all)
    by_tile i (inr apart) = subst IsTile (sym (get_or-set_other tiles tile i flags no_flags apart)) (h.each i)

-- a flag is raised
raised_here : (tiles : PointFlags) (t f : ℕ) → t < length tiles → f < length (get_or tiles t []) → is_raised (set tiles t (set (get_or tiles t []) f true)) t f ≡ true
raised_here tiles t f h k =
    ap (λ (fs : List Bool). get_or fs f false) (get_or-set_same tiles t (set (get_or tiles t []) f true) no_flags h)
    ∙ get_or-set_same (get_or tiles t []) f true false k

raised_there : (tiles : PointFlags) (t f u g : ℕ) → t < length tiles → (t ≡ u → f ≡ g → ⊥) → is_raised (set tiles t (set (get_or tiles t []) f true)) u g ≡ is_raised tiles u g
raised_there tiles t f u g h apart = by_tile (cases_eq u t)
  where
    by_tile : (u ≡ t) ⊎ (u ≡ t → ⊥) → is_raised (set tiles t (set (get_or tiles t []) f true)) u g ≡ is_raised tiles u g
    by_tile (inl e) =
        ap (λ k. is_raised (set tiles t (set (get_or tiles t []) f true)) k g) e
        ∙ ap (λ (fs : List Bool). get_or fs g false) (get_or-set_same tiles t (set (get_or tiles t []) f true) no_flags h)
        ∙ get_or-set_other (get_or tiles t []) f g true false (λ k. apart (sym e) (sym k))
        ∙ ap (λ k. is_raised tiles k g) (sym e)
    by_tile (inr far) = ap (λ (fs : List Bool). get_or fs g false) (get_or-set_other tiles t u (set (get_or tiles t []) f true) no_flags far)

-- a point is put into the set
pub held_with : (tiles : PointFlags) (p q : GridPoint) → IsDoubled p → tile_of p < length tiles → flag_of p < length (get_or tiles (tile_of p) [])
    → holds (set tiles (tile_of p) (set (get_or tiles (tile_of p) []) (flag_of p) true)) q ≡ cond (are_one p q) true (holds tiles q)
held_with tiles p q h below within = by_one (cases_Bool (are_one p q))
  where
    elsewhere : are_one p q ≡ false → (is_doubled q ≡ true) ⊎ (is_doubled q ≡ false) → holds (set tiles (tile_of p) (set (get_or tiles (tile_of p) []) (flag_of p) true)) q ≡ holds tiles q
    elsewhere apart (inr e) = ap (λ b. b && is_raised (set tiles (tile_of p) (set (get_or tiles (tile_of p) []) (flag_of p) true)) (tile_of q) (flag_of q)) e ∙ sym (ap (λ b. b && is_raised tiles (tile_of q) (flag_of q)) e)
    elsewhere apart (inl e) =
        ap (λ v. is_doubled q && v)
        (raised_there tiles (tile_of p) (flag_of p) (tile_of q) (flag_of q) below (λ k l. false≢true (sym apart ∙ are_one_from p q (one_number p q h (IsDoubled-from q e) k l))))

    by_one : (are_one p q ≡ true) ⊎ (are_one p q ≡ false) → holds (set tiles (tile_of p) (set (get_or tiles (tile_of p) []) (flag_of p) true)) q ≡ cond (are_one p q) true (holds tiles q)
    by_one (inl e) =
        ap (holds (set tiles (tile_of p) (set (get_or tiles (tile_of p) []) (flag_of p) true))) (sym (one_point p q e))
        ∙ held (set tiles (tile_of p) (set (get_or tiles (tile_of p) []) (flag_of p) true)) p h
        ∙ raised_here tiles (tile_of p) (flag_of p) below within
        ∙ sym (ap (λ b. cond b true (holds tiles q)) e)
    by_one (inr e) = elsewhere e (cases_Bool (is_doubled q)) ∙ sym (ap (λ b. cond b true (holds tiles q)) e)

-- the same, where the tile was made before
pub held_after : (old mid new : PointFlags) (p q : GridPoint) (tile flag count : ℕ) → IsDoubled p → tile ≡ tile_of p → flag ≡ flag_of p → flag < count → length (get_or mid tile []) ≡ count
    → new ≡ set mid tile (set (get_or mid tile []) flag true) → ((t f : ℕ) → is_raised mid t f ≡ is_raised old t f) → holds new q ≡ cond (are_one p q) true (holds old q)
held_after old mid new p q tile flag count h at_tile at_flag within made is same =
    let there : tile < length mid = by_order (cases_lt tile (length mid)) in
    let exact : new ≡ set mid (tile_of p) (set (get_or mid (tile_of p) []) (flag_of p) true) =
    is ∙ ap (λ n. set mid n (set (get_or mid n []) flag true)) at_tile ∙ ap (λ n. set mid (tile_of p) (set (get_or mid (tile_of p) []) n true)) at_flag in
    let made_at : length (get_or mid (tile_of p) []) ≡ count = ap (λ n. length (get_or mid n no_flags)) (sym at_tile) ∙ made in
    ap (λ (ts : PointFlags). holds ts q) exact
    ∙ held_with mid p q h (subst (λ n. n < length mid) at_tile there) (subst (λ n. n < length (get_or mid (tile_of p) [])) at_flag (subst (λ n. flag < n) (sym made_at) within))
    ∙ ap (λ b. cond (are_one p q) true b) (same_held mid old q same)
  where
    by_order : (tile < length mid) ⊎ (length mid ≤ tile) → tile < length mid
    by_order (inl k) = k
    by_order (inr k) = let none : length (get_or mid tile no_flags) ≡ 0 = ap (λ (fs : List Bool). length fs) (get_or_past mid tile no_flags k) in absurd (omega arith)
