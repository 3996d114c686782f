-- Texts of elements that grow.
use Rattle.std.proofs.Common.{◌≡◌, ℕ, ◌+◌, ◌<◌, ◌≤◌, List, [], ◌∷◌, ◌++◌, length, get_or, drop, ap, sym, ◌∙◌, arith, append_assoc, append-nil, codes}
use Rattle.std.specs.Fmt.{signed_decimal}
use Rattle.std.specs.List.{flat_map, range_with_len}
use Rattle.std.proofs.lemmas.Grind.{flat_map-append}
use Rattle.std.proofs.lemmas.List.{at_drop_all, drop_more}
use Rattle.line_offsets.specs.declared.corner.Corner.{Corner}
use Rattle.svg_writer.specs.Elements.{corner_text, place_text}
use Rattle.svg_writer.proofs.Appends.{grew2, grew6}
use Rattle.svg_writer.proofs.Ranges.{range_more}
use Rattle.poster_rules.specs.Elements.{Element, element_text, texts}

pub grew7 : (o s t u v w x y : List ℕ) (a b c d e f g : List ℕ) → s ≡ o ++ a → t ≡ s ++ b → u ≡ t ++ c → v ≡ u ++ d → w ≡ v ++ e → x ≡ w ++ f → y ≡ x ++ g
    → y ≡ o ++ (a ++ (b ++ (c ++ (d ++ (e ++ (f ++ g))))))
grew7 o s t u v w x y a b c d e f g h i j k l m n = grew2 o s y a (b ++ (c ++ (d ++ (e ++ (f ++ g))))) h (grew6 s t u v w x y b c d e f g i j k l m n)

-- the head and the ground that show from a point as far as a size
abbrev pub head_text : Corner → Corner → List ℕ
head_text place size =
    codes "<svg xmlns=\"http://www.w3.org/2000/svg\" version=\"1.1\" viewBox=\"" ++ (corner_text place ++ (32 ∷ corner_text size ++ codes "\" font-family=\"Helvetica, Arial, sans-serif\">\n"))

abbrev pub ground_text : Corner → Corner → List ℕ
ground_text place size =
    codes "<rect x=\"" ++ (place_text place ++ (codes "\" width=\"" ++ (signed_decimal size.x ++ (codes "\" height=\"" ++ (signed_decimal size.y ++ codes "\" fill=\"#ffffff\"/>\n")))))

pub texts-append : (a b : List Element) → texts (a ++ b) ≡ texts a ++ texts b
texts-append a b = flat_map-append element_text a b

-- one element alone
pub one_text : (e : Element) → texts (e ∷ []) ≡ element_text e
one_text e = append-nil (element_text e)

-- a text that goes on with the elements of the next number
pub numbered_more : (f : ℕ → List Element) (n : ℕ) (old before after : List ℕ) → before ≡ old ++ texts (flat_map f (range_with_len 0 n)) → after ≡ before ++ texts (f n)
    → after ≡ old ++ texts (flat_map f (range_with_len 0 (n + 1)))
numbered_more f n old before after was now =
    let done = flat_map f (range_with_len 0 n) in
    let next : flat_map f (range_with_len 0 (n + 1)) ≡ done ++ f n =
    ap (flat_map f) (range_more 0 n n (omega arith)) ∙ flat_map-append f (range_with_len 0 n) (n ∷ []) ∙ ap (λ (es : List Element). done ++ es) (append-nil (f n)) in
    now ∙ ap (λ (bytes : List ℕ). bytes ++ texts (f n)) was ∙ append_assoc old (texts done) (texts (f n))
    ∙ ap (λ (bytes : List ℕ). old ++ bytes) (sym (texts-append done (f n)) ∙ ap texts (sym next))

-- with the elements of the next of a list
pub listed_more : {A : Type 0} (f : A → List Element) (xs : List A) (i : ℕ) (d x : A) (before after whole : List ℕ) → i < length xs → x ≡ get_or xs i d → after ≡ before ++ texts (f x)
    → before ++ texts (flat_map f (drop i xs)) ≡ whole → after ++ texts (flat_map f (drop (i + 1) xs)) ≡ whole
listed_more f xs i d x before after whole low is grew all =
    let rest = flat_map f (drop (i + 1) xs) in
    ap (λ (bytes : List ℕ). bytes ++ texts rest) grew
    ∙ append_assoc before (texts (f x)) (texts rest)
    ∙ ap (λ y. before ++ (texts (f y) ++ texts rest)) is
    ∙ ap (λ (bytes : List ℕ). before ++ bytes) (sym (texts-append (f (get_or xs i d)) rest))
    ∙ sym (ap (λ ys. before ++ texts (flat_map f ys)) (drop_more xs i d low))
    ∙ all

pub listed_all : {A : Type 0} (f : A → List Element) (xs : List A) (i : ℕ) (before whole : List ℕ) → length xs ≡ i → before ++ texts (flat_map f (drop i xs)) ≡ whole → before ≡ whole
listed_all f xs i before whole end all = sym (append-nil before) ∙ sym (at_drop_all (λ ys. before ++ texts (flat_map f ys)) xs i (omega arith)) ∙ all

-- what is written of a list with one part more, and with all parts, where a text of the list is made of its parts
pub part_more : {A : Type 0} (F : List A → List ℕ) (xs : List A) (i : ℕ) (d : A) (part before after whole : List ℕ) → i < length xs
    → F (get_or xs i d ∷ drop (i + 1) xs) ≡ part ++ F (drop (i + 1) xs) → after ≡ before ++ part → before ++ F (drop i xs) ≡ whole → after ++ F (drop (i + 1) xs) ≡ whole
part_more F xs i d part before after whole low made grew all =
    ap (λ (bytes : List ℕ). bytes ++ F (drop (i + 1) xs)) grew
    ∙ append_assoc before part (F (drop (i + 1) xs))
    ∙ ap (λ (bytes : List ℕ). before ++ bytes) (sym made)
    ∙ sym (ap (λ ys. before ++ F ys) (drop_more xs i d low))
    ∙ all

pub parts_all : {A : Type 0} (F : List A → List ℕ) (xs : List A) (i : ℕ) (before whole : List ℕ) → length xs ≤ i → F [] ≡ [] → before ++ F (drop i xs) ≡ whole → before ≡ whole
parts_all F xs i before whole end none all =
    sym (append-nil before) ∙ ap (λ (bytes : List ℕ). before ++ bytes) (sym none) ∙ sym (at_drop_all (λ ys. before ++ F ys) xs i end) ∙ all
