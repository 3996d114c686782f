-- How much lines count, an entry at a time.
use Rattle.std.proofs.Common.{◌≡◌, ℕ, ◌<◌, ◌≤◌, Bool, List, [], ◌∷◌, ◌++◌, length, map, All, Option, Some, None, option_map, String, Global, Less, nat_cmp, string_bytes, sym, ap, subst, ◌∙◌, cond, nat_le, le-leb, true, false}
use Rattle.std.proofs.lemmas.Bool.{lt-leb}
use Rattle.std.proofs.lemmas.List.{length-map}
use Rattle.std.proofs.lemmas.List.Elements.{All-push}
use Rattle.std.proofs.lemmas.Map.Keys.{sorted_head, sorted_tail}
use Rattle.std.proofs.lemmas.Option.{same_Some, none-some}
use Rattle.std.specs.Cmp.Lexicographic.{slice_cmp}
use Rattle.std.specs.List.Sorted.{IsStrictlySortedBy}
use Rattle.std.specs.Map.{keys_of}
use Rattle.std.specs.Option.{option_and_then}
use Rattle.std.specs.String.{string_cmp}
use Rattle.map_base.specs.Settings.{AreRisingIds, IsImportance}
use Rattle.toml.specs.View.{view, members_view}
use Rattle.toml.specs.declared.value.Value.{Value}
use Rattle.map_settings.specs.Tables.{entries}
use Rattle.map_settings.specs.Values.{whole_number, of_each, importance_at, importances}
use Rattle.map_settings.proofs.EachLemmas.{with_rest, of_each-more, of_each-stops, of_each-ends, in_front-parts}
use Rattle.map_settings.proofs.TableLemmas.{entry_view, entries-members_view}

abbrev pub Entry : Type 0
Entry = String Global × Value

abbrev pub Pair : Type 0
Pair = List ℕ × ℕ

-- how many entries a map has
many : (file : List Entry) → length (entries (members_view file)) ≡ length file
many file = ap length (entries-members_view file) ∙ length-map file entry_view

-- too many entries
pub too_many : (file : List Entry) → 1000 < length file → importances (entries (members_view file)) ≡ None
too_many file above =
    let test : nat_le (length (entries (members_view file))) 1000 ≡ false = ap (λ n. nat_le n 1000) (many file) ∙ lt-leb (length file) 1000 above in
    ap (λ (b : Bool). option_and_then (of_each importance_at) (cond b (Some (entries (members_view file))) None)) test

-- entries that are not too many
pub few : (file : List Entry) → length file ≤ 1000 → importances (entries (members_view file)) ≡ of_each importance_at (map entry_view file)
few file within =
    let test : nat_le (length (entries (members_view file))) 1000 ≡ true = ap (λ n. nat_le n 1000) (many file) ∙ le-leb (length file) 1000 within in
    ap (λ (b : Bool). option_and_then (of_each importance_at) (cond b (Some (entries (members_view file))) None)) test
    ∙ ap (of_each importance_at) (entries-members_view file)

-- one more entry
pub importances-more : (done : List Pair) (entry : Entry) (left : List Entry) (text : List ℕ) (n : ℕ) (new : List Pair) (all : Option (List Pair))
    → text ≡ string_bytes entry.0 → Some n ≡ whole_number 1 16 (view entry.1) → new ≡ done ++ (text, n) ∷ []
    → with_rest done (of_each importance_at (map entry_view (entry ∷ left))) ≡ all
    → with_rest new (of_each importance_at (map entry_view left)) ≡ all
importances-more done entry left text n new all named found pushed before =
    let at : importance_at (entry_view entry) ≡ Some (text, n) =
    ap (option_map (λ i. (string_bytes entry.0, i))) (sym found) ∙ ap (λ t. Some (t, n)) (sym named) in
    ap (λ pairs. with_rest pairs (of_each importance_at (map entry_view left))) pushed
    ∙ of_each-more importance_at done (entry_view entry) (text, n) (map entry_view left) at ∙ before

-- each importance so far is in its range
pub ranges-more : (done new : List Pair) (text : List ℕ) (n : ℕ) → new ≡ done ++ (text, n) ∷ []
    → All (λ (p : Pair). IsImportance p.1) done → IsImportance n → All (λ (p : Pair). IsImportance p.1) new
ranges-more done new text n pushed before here =
    let P : List Pair → Type 0 = All (λ (p : Pair). IsImportance p.1) in
    subst P (sym pushed) (All-push (λ (p : Pair). IsImportance p.1) done (text, n) before here)

-- an entry that says nothing
pub importances-stop : (done : List Pair) (entry : Entry) (left file : List Entry) → length file ≤ 1000
    → None ≡ whole_number 1 16 (view entry.1)
    → with_rest done (of_each importance_at (map entry_view (entry ∷ left))) ≡ of_each importance_at (map entry_view file)
    → importances (entries (members_view file)) ≡ None
importances-stop done entry left file within none before =
    few file within ∙ sym before
    ∙ of_each-stops importance_at done (entry_view entry) (map entry_view left) (ap (option_map (λ i. (string_bytes entry.0, i))) (sym none))

-- no entry is left
pub importances-end : (done : List Pair) (left file : List Entry) → left ≡ []
    → with_rest done (of_each importance_at (map entry_view left)) ≡ of_each importance_at (map entry_view file)
    → of_each importance_at (map entry_view file) ≡ Some done
importances-end done left file none before =
    sym before ∙ ap (λ es. with_rest done (of_each importance_at (map entry_view es))) none ∙ of_each-ends importance_at done

id_of : (o : Option ℕ) (id : List ℕ) (p : Pair) → option_map (λ i. (id, i)) o ≡ Some p → p.0 ≡ id
id_of None id p e = absurd (none-some _ e)
id_of (Some n) id p e = ap (λ (q : Pair). q.0) (sym (same_Some _ _ e))

id_found : (entry : Entry) (p : Pair) → importance_at (entry_view entry) ≡ Some p → p.0 ≡ string_bytes entry.0
id_found entry p e = id_of (whole_number 1 16 (view entry.1)) (string_bytes entry.0) p e

lower_by : (x y p q : List ℕ) → p ≡ x → q ≡ y → slice_cmp nat_cmp x y ≡ Less → slice_cmp nat_cmp p q ≡ Less
lower_by x y p q e f h = ap (λ t. slice_cmp nat_cmp t q) e ∙ ap (λ t. slice_cmp nat_cmp x t) f ∙ h

-- the ids rise as the keys of the map do
pub rising : (file : List Entry) (pairs : List Pair) → of_each importance_at (map entry_view file) ≡ Some pairs
    → IsStrictlySortedBy string_cmp (keys_of file) → AreRisingIds pairs
rising [] pairs e s = subst AreRisingIds (same_Some _ _ e) tt
rising (a ∷ []) pairs e s =
    let (p, rest, found, left, is) = in_front-parts (importance_at (entry_view a)) (Some []) pairs e in
    subst AreRisingIds (sym (is ∙ ap (λ r. p ∷ r) (sym (same_Some [] rest left)))) tt
rising (a ∷ b ∷ file) pairs e s =
    let (p, rest, found, left, is) = in_front-parts (importance_at (entry_view a)) (of_each importance_at (map entry_view (b ∷ file))) pairs e in
    let (q, more, found', left', is') = in_front-parts (importance_at (entry_view b)) (of_each importance_at (map entry_view file)) rest left in
    let later : AreRisingIds (q ∷ more) = subst AreRisingIds is' (rising (b ∷ file) rest left (sorted_tail string_cmp a.0 (keys_of (b ∷ file)) s)) in
    let below : string_cmp a.0 b.0 ≡ Less = (sorted_head string_cmp a.0 (keys_of (b ∷ file)) s).0 in
    let lower : slice_cmp nat_cmp p.0 q.0 ≡ Less = lower_by (string_bytes a.0) (string_bytes b.0) p.0 q.0 (id_found a p found) (id_found b q found') below in
    subst AreRisingIds (sym (is ∙ ap (λ r. p ∷ r) is')) (lower, later)
