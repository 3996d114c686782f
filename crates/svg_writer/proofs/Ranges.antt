-- Elements made number by number.
use Rattle.std.proofs.Common.{◌≡◌, sym, ◌∙◌, ap, ℕ, zero, suc, ◌+◌, List, [], ◌∷◌, ◌++◌, arith, append_assoc, append-nil}
use Rattle.std.specs.List.{flat_map, range_with_len}
use Rattle.std.proofs.lemmas.Grind.{flat_map-append}
use Rattle.svg_writer.specs.declared.style.Style.{Style}
use Rattle.svg_writer.specs.Elements.{Element, element_text, texts}

-- the number after so many
pub range_more : (a n j : ℕ) → a + n ≡ j → range_with_len a (n + 1) ≡ range_with_len a n ++ j ∷ []
range_more a zero j e = let is : a ≡ j = omega (arith, e) in ap (λ (k : ℕ). k ∷ []) is
range_more a (suc n) j e =
    let more : suc n + 1 ≡ suc (n + 1) = omega arith in
    ap (range_with_len a) more ∙ ap (λ (ks : List ℕ). a ∷ ks) (range_more (a + 1) n j (omega (arith, e)))

pub texts-append : (style : Style) (a b : List Element) → texts style (a ++ b) ≡ texts style a ++ texts style b
texts-append style a b = flat_map-append (element_text style) a b

-- a text that goes on with the elements of the next number
pub numbered_more : (style : Style) (f : ℕ → List Element) (n : ℕ) (old before after : List ℕ) → before ≡ old ++ texts style (flat_map f (range_with_len 0 n))
    → after ≡ before ++ texts style (f n) → after ≡ old ++ texts style (flat_map f (range_with_len 0 (n + 1)))
numbered_more style f n old before after was now =
    let done = flat_map f (range_with_len 0 n) in
    let next : flat_map f (range_with_len 0 (n + 1)) ≡ done ++ f n =
    ap (flat_map f) (range_more 0 n n (omega arith)) ∙ flat_map-append f (range_with_len 0 n) (n ∷ []) ∙ ap (λ (es : List Element). done ++ es) (append-nil (f n)) in
    now ∙ ap (λ (bytes : List ℕ). bytes ++ texts style (f n)) was ∙ append_assoc old (texts style done) (texts style (f n))
    ∙ ap (λ (bytes : List ℕ). old ++ bytes) (sym (texts-append style done (f n)) ∙ ap (texts style) (sym next))

-- all parts of a picture, one after the other: the text before the names, the names, and the end
pub in_order : (style : Style) (h : Element) (a b c d : List Element) (t : Element)
    → texts style (h ∷ (a ++ (b ++ (c ++ (d ++ t ∷ [])))))
    ≡ (element_text style h ++ (texts style a ++ (texts style b ++ texts style c))) ++ (texts style d ++ element_text style t)
in_order style h a b c d t =
    ap (λ (bytes : List ℕ). element_text style h ++ bytes)
    (texts-append style a (b ++ (c ++ (d ++ t ∷ [])))
    ∙ ap (λ (bytes : List ℕ). texts style a ++ bytes)
    (texts-append style b (c ++ (d ++ t ∷ []))
    ∙ ap (λ (bytes : List ℕ). texts style b ++ bytes)
    (texts-append style c (d ++ t ∷ [])
    ∙ ap (λ (bytes : List ℕ). texts style c ++ bytes)
    (texts-append style d (t ∷ []) ∙ ap (λ (bytes : List ℕ). texts style d ++ bytes) (append-nil (element_text style t))))))
    ∙ sym (regrouped (element_text style h) (texts style a) (texts style b) (texts style c) (texts style d ++ element_text style t))
  where
    regrouped : (u v w x rest : List ℕ) → (u ++ (v ++ (w ++ x))) ++ rest ≡ u ++ (v ++ (w ++ (x ++ rest)))
    regrouped u v w x rest =
        append_assoc u (v ++ (w ++ x)) rest
        ∙ ap (λ (bytes : List ℕ). u ++ bytes) (append_assoc v (w ++ x) rest ∙ ap (λ (bytes : List ℕ). v ++ bytes) (append_assoc w x rest))
