-- A set of slices, seen as the list of what they point to.
use Rattle.std.proofs.Common.{◌≡◌, ℕ, Bool, true, false, ◌||◌, List, [], ◌∷◌, ◌++◌, map, refl, sym, ap, ◌∙◌, Bor, bytes_eq, not, ◌+◌, cond, ltb, length, position, Some, None, if◌then◌else◌}
use Rattle.std.specs.List.{list_any, position_or_len}
use Rattle.std.proofs.lemmas.List.{length-map}
use Rattle.std.specs.Cmp.Lexicographic.{nat_list_eq_equiv}
use Rattle.std.proofs.Math.Bool.{or-false}
use Rattle.std.proofs.lemmas.Map.Steps.{list_any_congr}
use Rattle.std.proofs.lemmas.List.Folds.{list_any-append}
use Rattle.table_rows.specs.Ids.{is_among, noted, place_among}

-- what a slice points to
abbrev pub pointed : Bor (List ℕ) → List ℕ
pointed k = k.now

-- a slice is among slices exactly where its bytes are among theirs
pub is_among-pointed : (id : List ℕ) (keys : List (Bor (List ℕ))) → list_any (λ k. bytes_eq id k.now) keys ≡ is_among id (map pointed keys)
is_among-pointed id [] = refl
is_among-pointed id (k ∷ keys) = ap (λ rest. bytes_eq id k.now || rest) (is_among-pointed id keys)

pub pointed-push : (keys : List (Bor (List ℕ))) (k : Bor (List ℕ)) → map pointed (keys ++ k ∷ []) ≡ map pointed keys ++ k.now ∷ []
pointed-push [] k = refl
pointed-push (x ∷ keys) k = ap (λ rest. x.now ∷ rest) (pointed-push keys k)

-- the bytes of the keys after one is inserted
pub noted-pointed : (keys : List (Bor (List ℕ))) (k : Bor (List ℕ))
    → map pointed (if list_any (λ x. bytes_eq k.now x.now) keys then keys else keys ++ k ∷ []) ≡ noted (map pointed keys) k.now
noted-pointed keys k = by (list_any (λ x. bytes_eq k.now x.now) keys) refl
  where
    by : (b : Bool) → list_any (λ x. bytes_eq k.now x.now) keys ≡ b
        → map pointed (if list_any (λ x. bytes_eq k.now x.now) keys then keys else keys ++ k ∷ []) ≡ noted (map pointed keys) k.now
    by true e = ap (λ b. map pointed (if b then keys else keys ++ k ∷ [])) e
        ∙ sym (ap (λ b. if b then map pointed keys else map pointed keys ++ k.now ∷ []) (sym (is_among-pointed k.now keys) ∙ e))
    by false e = ap (λ b. map pointed (if b then keys else keys ++ k ∷ [])) e
        ∙ pointed-push keys k
        ∙ sym (ap (λ b. if b then map pointed keys else map pointed keys ++ k.now ∷ []) (sym (is_among-pointed k.now keys) ∙ e))

-- who is among the ids once another is noted
pub is_among-noted : (ids : List (List ℕ)) (id other : List ℕ) → is_among other (noted ids id) ≡ (is_among other ids || bytes_eq other id)
is_among-noted ids id other = by (is_among id ids) refl
  where
    held : (b : Bool) → is_among id ids ≡ true → bytes_eq other id ≡ b → is_among other ids ≡ (is_among other ids || b)
    held true e same =
        let there : is_among other ids ≡ true = list_any_congr nat_list_eq_equiv other id ids same ∙ e in
        there ∙ sym (ap (λ x. x || true) there)
    held false e same = sym (or-false (is_among other ids))

    by : (b : Bool) → is_among id ids ≡ b → is_among other (noted ids id) ≡ (is_among other ids || bytes_eq other id)
    by true e = ap (λ b. is_among other (if b then ids else ids ++ id ∷ [])) e ∙ held (bytes_eq other id) e refl
    by false e =
        ap (λ b. is_among other (if b then ids else ids ++ id ∷ [])) e
        ∙ list_any-append (bytes_eq other) ids (id ∷ [])
        ∙ ap (λ b. is_among other ids || b) (or-false (bytes_eq other id))

-- the first place that passes a test of what a map gives
position_or_len-map : {X Y : Type 0} (test : Y → Bool) (f : X → Y) (xs : List X) → position_or_len (λ x. test (f x)) xs ≡ position_or_len test (map f xs)
position_or_len-map test f [] = refl
position_or_len-map test f (x ∷ xs) = ap (λ n. if not (test (f x)) then 1 + n else 0) (position_or_len-map test f xs)

-- the place of a slice among slices is that of its bytes among theirs
pub place_among-pointed : (id : List ℕ) (keys : List (Bor (List ℕ))) → position (λ k. bytes_eq id k.now) keys ≡ place_among (map pointed keys) id
place_among-pointed id keys =
    ap (λ n. cond (ltb n (length keys)) (Some n) None) (position_or_len-map (bytes_eq id) pointed keys)
    ∙ ap (λ all. cond (ltb (position_or_len (bytes_eq id) (map pointed keys)) all) (Some (position_or_len (bytes_eq id) (map pointed keys))) None) (sym (length-map keys pointed))
