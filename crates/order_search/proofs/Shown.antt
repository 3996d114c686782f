-- Trees as plain ones.
use Rattle.std.proofs.Common.{◌≡◌, ℕ, ℤ, ◌+◌, ◌<◌, List, [], ◌∷◌, ◌++◌, length, map, take, get_or, Vec, Global, refl, sym, ◌∙◌, ap, rules}
use Rattle.std.proofs.lemmas.List.{take_more, map-append}
use Rattle.map_base.specs.declared.ids.SegId.{SegId}
use Rattle.map_base.specs.declared.ids.LineId.{LineId}
use Rattle.order_proof.specs.declared.tree.Tree.{Tree, Split, Close, the_lemmas}
use Rattle.order_proof.specs.Plain.{PlainTree, split, close, plain, plain_children}

abbrev plain_case : LineId × Tree → LineId × PlainTree
plain_case c = (c.0, plain c.1)

map_last : (cs : List (LineId × Tree)) (c : LineId × Tree) → map plain_case (cs ++ c ∷ []) ≡ map plain_case cs ++ plain_case c ∷ []
map_last [] c = refl
map_last (x ∷ cs) c = ap (λ l. plain_case x ∷ l) (map_last cs c)

-- one case more
pub plain_last : (old new : List (LineId × Tree)) (a : LineId) (t : Tree) (so_far : List (LineId × PlainTree)) (p : PlainTree) → new ≡ old ++ (a, t) ∷ []
    → map (λ (c : LineId × Tree). (c.0, plain c.1)) old ≡ so_far → plain t ≡ p → map (λ (c : LineId × Tree). (c.0, plain c.1)) new ≡ so_far ++ (a, p) ∷ []
plain_last old new a t so_far p is e f =
    let last : PlainTree → List (LineId × PlainTree) = λ q. so_far ++ (a, q) ∷ [] in
    ap (map plain_case) is ∙ map_last old (a, t) ∙ ap (λ l. l ++ plain_case (a, t) ∷ []) e ∙ ap last f

-- the case of one more of these, with its prices
pub priced_last : (f : LineId × Tree → LineId × PlainTree) (children : List (LineId × Tree)) (old new : List (LineId × Tree)) (i : ℕ) (item : LineId × Tree) (t : Tree)
    → i < length children → item ≡ get_or children i item → new ≡ old ++ (item.0, t) ∷ []
    → map (λ (c : LineId × Tree). (c.0, plain c.1)) old ≡ map f (take i children) → plain_case (item.0, t) ≡ f item
    → map (λ (c : LineId × Tree). (c.0, plain c.1)) new ≡ map f (take (i + 1) children)
priced_last f children old new i item t below is pushed so_far same =
    let last : LineId × PlainTree → List (LineId × PlainTree) = λ x. map f (take i children) ++ x ∷ [] in
    plain_last old new item.0 t (map f (take i children)) (plain t) pushed so_far refl
    ∙ ap last (same ∙ ap f is)
    ∙ sym (ap (map f) (take_more children i item below) ∙ map-append f (take i children) (get_or children i item ∷ []))
