-- The text of elements tells them.
use Rattle.std.proofs.Common.{◌≡◌, refl, sym, ◌∙◌, ap, ap₂, ℕ, ◌+◌, ◌*◌, ◌≤◌, ◌^◌, Bool, cond, ◌==◌, ℤ, pos, ◌+ℤ◌, ◌-ℤ◌, List, [], ◌∷◌, ◌++◌, drop, get_or, map, codes, decimal, flat_map, arith}
use Rattle.std.proofs.lemmas.Bool.{eqb-true, or_right}
use Rattle.std.proofs.lemmas.Int.{ints}
use Rattle.std.proofs.lemmas.List.{append_cancel_left}
use Rattle.std.specs.List.{AllByRecursion}
use Rattle.line_offsets.specs.declared.corner.Corner.{Corner}
use Rattle.svg_writer.specs.declared.bounds.Bounds.{Bounds}
use Rattle.svg_writer.specs.declared.style.Style.{Style}
use Rattle.svg_writer.specs.Elements.{Element, Head, OnSegment, AtNode, Marker, Label, Tail, centre_text, circle_text, colour_text, corner_text, element_text, ids_text, label_text, next_text, path_text, place_text, quoted, stroke_text, texts, title_text, view_place, view_size, view_text}
use Rattle.svg_writer.specs.Escaping.{escaped}
use Rattle.picture_laws.specs.Written.{as_written, IsColour, IsNearCorner, IsWritable}
use Rattle.picture_laws.proofs.Cuts.{colour_cut, corner_cut, ends_number, name_cut, natural_cut, shift, Begins}

-- a text that stands in both is taken off both
same_front : (a b r c s : List ℕ) → (a ++ b) ++ r ≡ (a ++ c) ++ s → b ++ r ≡ c ++ s
same_front a b r c s e = append_cancel_left a (b ++ r) (c ++ s) (shift a b r a c s e)

-- ---- paths

abbrev is_quote : ℕ → Bool
is_quote c = c == 34

-- what begins with a quotation mark begins with no other byte, and ends a number
first_is : (r : List ℕ) (c : ℕ) (t : List ℕ) → Begins is_quote r → r ≡ c ∷ t → c ≡ 34
first_is [] c t br e = absurd br
first_is (d ∷ r) c t br e = let same : d ≡ c = cc in sym same ∙ eqb-true d 34 br

quote_ends : (r : List ℕ) → Begins is_quote r → Begins ends_number r
quote_ends [] br = br
quote_ends (c ∷ r) br = or_right (c == 32) (c == 34) br

corners_end : (cs : List Corner) (r : List ℕ) → Begins is_quote r → Begins ends_number (flat_map next_text cs ++ r)
corners_end [] r br = quote_ends r br
corners_end (c ∷ cs) r br = refl

-- corners after the first, up to a quotation mark
next_cut : (cs ds : List Corner) (r s : List ℕ) → AllByRecursion IsNearCorner cs → AllByRecursion IsNearCorner ds → Begins is_quote r → Begins is_quote s
    → flat_map next_text cs ++ r ≡ flat_map next_text ds ++ s → (cs ≡ ds) × (r ≡ s)
next_cut [] [] r s lc ld br bs e = (refl, e)
next_cut [] (d ∷ ds) r s lc ld br bs e = absurd (omega (arith, first_is r 32 (drop 1 (flat_map next_text (d ∷ ds) ++ s)) br e))
next_cut (c ∷ cs) [] r s lc ld br bs e = absurd (omega (arith, first_is s 32 (drop 1 (flat_map next_text (c ∷ cs) ++ r)) bs (sym e)))
next_cut (c ∷ cs) (d ∷ ds) r s lc ld br bs e =
    let front = shift (next_text c) (flat_map next_text cs) r (next_text d) (flat_map next_text ds) s e in
    let corner = same_front (codes " L ") (corner_text c) (flat_map next_text cs ++ r) (corner_text d) (flat_map next_text ds ++ s) front in
    let both = corner_cut 32 [] refl c d (flat_map next_text cs ++ r) (flat_map next_text ds ++ s) lc.0 ld.0 (corners_end cs r br) (corners_end ds s bs) corner in
    let rest = next_cut cs ds r s lc.1 ld.1 br bs both.1 in
    (ap₂ (λ (x : Corner) (xs : List Corner). x ∷ xs) both.0 rest.0, rest.1)

path_cut : (cs ds : List Corner) (r s : List ℕ) → AllByRecursion IsNearCorner cs → AllByRecursion IsNearCorner ds → Begins is_quote r → Begins is_quote s
    → path_text cs ++ r ≡ path_text ds ++ s → (cs ≡ ds) × (r ≡ s)
path_cut [] [] r s lc ld br bs e = (refl, e)
path_cut [] (d ∷ ds) r s lc ld br bs e = absurd (omega (arith, first_is r 77 (drop 1 (path_text (d ∷ ds) ++ s)) br e))
path_cut (c ∷ cs) [] r s lc ld br bs e = absurd (omega (arith, first_is s 77 (drop 1 (path_text (c ∷ cs) ++ r)) bs (sym e)))
path_cut (c ∷ cs) (d ∷ ds) r s lc ld br bs e =
    let behind = same_front (codes "M ") (corner_text c ++ flat_map next_text cs) r (corner_text d ++ flat_map next_text ds) s e in
    let corner = shift (corner_text c) (flat_map next_text cs) r (corner_text d) (flat_map next_text ds) s behind in
    let both = corner_cut 32 [] refl c d (flat_map next_text cs ++ r) (flat_map next_text ds ++ s) lc.0 ld.0 (corners_end cs r br) (corners_end ds s bs) corner in
    let rest = next_cut cs ds r s lc.1 ld.1 br bs both.1 in
    (ap₂ (λ (x : Corner) (xs : List Corner). x ∷ xs) both.0 rest.0, rest.1)

-- two numbers of a class, and what stands behind them
ids_cut : (n m k l : ℕ) (r s : List ℕ) → n ≤ 10 ^ 15 → m ≤ 10 ^ 15 → k ≤ 10 ^ 15 → l ≤ 10 ^ 15 → ids_text n k ++ r ≡ ids_text m l ++ s → (n ≡ m) × (k ≡ l) × (r ≡ s)
ids_cut n m k l r s fn fm fk fl e =
    let first =
    natural_cut n m ((codes " l" ++ (decimal k ++ codes "\" d=\"")) ++ r) ((codes " l" ++ (decimal l ++ codes "\" d=\"")) ++ s) fn fm refl refl
    (shift (decimal n) (codes " l" ++ (decimal k ++ codes "\" d=\"")) r (decimal m) (codes " l" ++ (decimal l ++ codes "\" d=\"")) s e) in
    let second = same_front (codes " l") (decimal k ++ codes "\" d=\"") r (decimal l ++ codes "\" d=\"") s first.1 in
    let both =
    natural_cut k l (codes "\" d=\"" ++ r) (codes "\" d=\"" ++ s) fk fl refl refl
    (shift (decimal k) (codes "\" d=\"") r (decimal l) (codes "\" d=\"") s second) in
    (first.0, both.0, append_cancel_left (codes "\" d=\"") r s both.1)

-- how a line is drawn, up to what stands behind it
stroke_cut : (style : Style) (a b r s : List ℕ) → IsColour a → IsColour b → stroke_text style a ++ r ≡ stroke_text style b ++ s → (a ≡ b) × (r ≡ s)
stroke_cut style a b r s la lb e =
    let width : List ℕ = codes "\" stroke-width=\"" ++ quoted style.stroke in
    let first = same_front (codes "\" fill=\"none\" stroke=\"") (colour_text a ++ width) r (colour_text b ++ width) s e in
    let both = colour_cut a b (width ++ r) (width ++ s) la lb refl refl (shift (colour_text a) width r (colour_text b) width s first) in
    (both.0, append_cancel_left width r s both.1)

-- a name, up to the end of its element
title_cut : (a b r s : List ℕ) → title_text a ++ r ≡ title_text b ++ s → (escaped a ≡ escaped b) × (r ≡ s)
title_cut a b r s e =
    let end : List ℕ = codes "</title></path>\n" in
    let first = same_front (codes "><title>") (escaped a ++ end) r (escaped b ++ end) s e in
    let both = name_cut a b (end ++ r) (end ++ s) refl refl (shift (escaped a) end r (escaped b) end s first) in
    (both.0, append_cancel_left end r s both.1)

label_cut : (style : Style) (a b r s : List ℕ) → label_text style a ++ r ≡ label_text style b ++ s → (escaped a ≡ escaped b) × (r ≡ s)
label_cut style a b r s e =
    let end : List ℕ = codes "</text>\n" in
    let first = same_front (codes "\" font-size=\"") (quoted style.font ++ (codes ">" ++ (escaped a ++ end))) r (quoted style.font ++ (codes ">" ++ (escaped b ++ end))) s e in
    let second = same_front (quoted style.font) (codes ">" ++ (escaped a ++ end)) r (codes ">" ++ (escaped b ++ end)) s first in
    let third = same_front (codes ">") (escaped a ++ end) r (escaped b ++ end) s second in
    let both = name_cut a b (end ++ r) (end ++ s) refl refl (shift (escaped a) end r (escaped b) end s third) in
    (both.0, append_cancel_left end r s both.1)

circle_cut : (style : Style) (n m : ℕ) (r s : List ℕ) → n ≤ 10 ^ 15 → m ≤ 10 ^ 15 → circle_text style n ++ r ≡ circle_text style m ++ s → (n ≡ m) × (r ≡ s)
circle_cut style n m r s fn fm e =
    let end : List ℕ = codes "\" fill=\"#ffffff\" stroke=\"#000000\" stroke-width=\"" ++ (quoted style.rim ++ codes "/>\n") in
    let first = same_front (codes "\" r=\"") (decimal n ++ end) r (decimal m ++ end) s e in
    let both = natural_cut n m (end ++ r) (end ++ s) fn fm refl refl (shift (decimal n) end r (decimal m) end s first) in
    (both.0, append_cancel_left end r s both.1)

-- ---- elements

-- what an element's text tells of it
abbrev Tells : Style → Element → Element → List ℕ → List ℕ → Type 0
Tells style e f r s = (as_written e ≡ as_written f) × (r ≡ s)

same_bounds : (style : Style) (a b : Bounds) → view_place style a ≡ view_place style b → view_size style a ≡ view_size style b → a ≡ b
same_bounds style a b p q =
    let left : (a.left -ℤ pos style.margin) ≡ (b.left -ℤ pos style.margin) = ap (λ (c : Corner). c.x) p in
    let top : (a.top -ℤ pos style.margin) ≡ (b.top -ℤ pos style.margin) = ap (λ (c : Corner). c.y) p in
    let wide : ((a.right -ℤ a.left) +ℤ pos (2 * style.margin)) ≡ ((b.right -ℤ b.left) +ℤ pos (2 * style.margin)) = ap (λ (c : Corner). c.x) q in
    let high : ((a.bottom -ℤ a.top) +ℤ pos (2 * style.margin)) ≡ ((b.bottom -ℤ b.top) +ℤ pos (2 * style.margin)) = ap (λ (c : Corner). c.y) q in
    from_parts (off a.left b.left (pos style.margin) left) (back a.right b.right a.left b.left (pos (2 * style.margin)) (off a.left b.left (pos style.margin) left) wide)
    (off a.top b.top (pos style.margin) top) (back a.bottom b.bottom a.top b.top (pos (2 * style.margin)) (off a.top b.top (pos style.margin) top) high)
  where
    off : (x y m : ℤ) → (x -ℤ m) ≡ (y -ℤ m) → x ≡ y
    off x y m h = omega (arith, ints)

    back : (x y u v m : ℤ) → u ≡ v → ((x -ℤ u) +ℤ m) ≡ ((y -ℤ v) +ℤ m) → x ≡ y
    back x y u v m g h = omega (arith, ints)

    from_parts : {l k r q t u b d : ℤ} → l ≡ k → r ≡ q → t ≡ u → b ≡ d
        → (let one : Bounds = record { left = l; right = r; top = t; bottom = b } in one) ≡ record { left = k; right = q; top = u; bottom = d }
    from_parts e f g h = cc

head_tells : (style : Style) (a b : Bounds) (r s : List ℕ) → IsWritable style (Head a) → IsWritable style (Head b)
    → element_text style (Head a) ++ r ≡ element_text style (Head b) ++ s → Tells style (Head a) (Head b) r s
head_tells style a b r s p q e =
    let end : List ℕ = codes "\">\n" in
    let first = same_front (codes "<svg xmlns=\"http://www.w3.org/2000/svg\" version=\"1.1\" viewBox=\"") (view_text style a ++ end) r (view_text style b ++ end) s e in
    let second = shift (view_text style a) end r (view_text style b) end s first in
    let third = shift (corner_text (view_place style a)) (32 ∷ corner_text (view_size style a)) (end ++ r) (corner_text (view_place style b)) (32 ∷ corner_text (view_size style b)) (end ++ s) second in
    let place =
    corner_cut 32 [] refl (view_place style a) (view_place style b) ((32 ∷ corner_text (view_size style a)) ++ (end ++ r)) ((32 ∷ corner_text (view_size style b)) ++ (end ++ s)) p.0 q.0 refl refl
    third in
    let size =
    corner_cut 32 [] refl (view_size style a) (view_size style b) (end ++ r) (end ++ s) p.1 q.1 refl refl
    (append_cancel_left (32 ∷ []) (corner_text (view_size style a) ++ (end ++ r)) (corner_text (view_size style b) ++ (end ++ s)) place.1) in
    (ap Head (same_bounds style a b place.0 size.0), append_cancel_left end r s size.1)

segment_tells : (style : Style) (n m k l : ℕ) (cs ds : List Corner) (a b x y r s : List ℕ) → IsWritable style (OnSegment n k cs a x) → IsWritable style (OnSegment m l ds b y)
    → element_text style (OnSegment n k cs a x) ++ r ≡ element_text style (OnSegment m l ds b y) ++ s → Tells style (OnSegment n k cs a x) (OnSegment m l ds b y) r s
segment_tells style n m k l cs ds a b x y r s p q e =
    let first =
    same_front (codes "<path class=\"s") (ids_text n k ++ (path_text cs ++ (stroke_text style a ++ title_text x))) r
    (ids_text m l ++ (path_text ds ++ (stroke_text style b ++ title_text y))) s e in
    let ids =
    ids_cut n m k l ((path_text cs ++ (stroke_text style a ++ title_text x)) ++ r) ((path_text ds ++ (stroke_text style b ++ title_text y)) ++ s) p.0 q.0 p.1 q.1
    (shift (ids_text n k) (path_text cs ++ (stroke_text style a ++ title_text x)) r (ids_text m l) (path_text ds ++ (stroke_text style b ++ title_text y)) s first) in
    let path =
    path_cut cs ds ((stroke_text style a ++ title_text x) ++ r) ((stroke_text style b ++ title_text y) ++ s) p.2 q.2 refl refl
    (shift (path_text cs) (stroke_text style a ++ title_text x) r (path_text ds) (stroke_text style b ++ title_text y) s ids.2) in
    let stroke = stroke_cut style a b (title_text x ++ r) (title_text y ++ s) p.3 q.3 (shift (stroke_text style a) (title_text x) r (stroke_text style b) (title_text y) s path.1) in
    let title = title_cut x y r s stroke.1 in
    (same ids.0 ids.1 path.0 stroke.0 title.0, title.1)
  where
    same : {n m k l : ℕ} {cs ds : List Corner} {a b x y : List ℕ} → n ≡ m → k ≡ l → cs ≡ ds → a ≡ b → x ≡ y → OnSegment n k cs a x ≡ OnSegment m l ds b y
    same e f g h i = cc

node_tells : (style : Style) (n m k l : ℕ) (c d u v : Corner) (a b r s : List ℕ) → IsWritable style (AtNode n k c u a) → IsWritable style (AtNode m l d v b)
    → element_text style (AtNode n k c u a) ++ r ≡ element_text style (AtNode m l d v b) ++ s → Tells style (AtNode n k c u a) (AtNode m l d v b) r s
node_tells style n m k l c d u v a b r s p q e =
    let end : List ℕ = codes "/>\n" in
    let one : List Corner = c ∷ u ∷ [] in
    let other : List Corner = d ∷ v ∷ [] in
    let first =
    same_front (codes "<path class=\"n") (ids_text n k ++ (path_text one ++ (stroke_text style a ++ end))) r (ids_text m l ++ (path_text other ++ (stroke_text style b ++ end))) s e in
    let ids =
    ids_cut n m k l ((path_text one ++ (stroke_text style a ++ end)) ++ r) ((path_text other ++ (stroke_text style b ++ end)) ++ s) p.0 q.0 p.1 q.1
    (shift (ids_text n k) (path_text one ++ (stroke_text style a ++ end)) r (ids_text m l) (path_text other ++ (stroke_text style b ++ end)) s first) in
    let path =
    path_cut one other ((stroke_text style a ++ end) ++ r) ((stroke_text style b ++ end) ++ s) (p.2, (p.3, tt)) (q.2, (q.3, tt)) refl refl
    (shift (path_text one) (stroke_text style a ++ end) r (path_text other) (stroke_text style b ++ end) s ids.2) in
    let stroke = stroke_cut style a b (end ++ r) (end ++ s) p.4 q.4 (shift (stroke_text style a) end r (stroke_text style b) end s path.1) in
    (same ids.0 ids.1 path.0 stroke.0, append_cancel_left end r s stroke.1)
  where
    same : {n m k l : ℕ} {c d u v : Corner} {a b : List ℕ} → n ≡ m → k ≡ l → (c ∷ u ∷ []) ≡ (d ∷ v ∷ []) → a ≡ b → AtNode n k c u a ≡ AtNode m l d v b
    same e f g h = cc

marker_tells : (style : Style) (c d : Corner) (n m : ℕ) (r s : List ℕ) → IsWritable style (Marker c n) → IsWritable style (Marker d m)
    → element_text style (Marker c n) ++ r ≡ element_text style (Marker d m) ++ s → Tells style (Marker c n) (Marker d m) r s
marker_tells style c d n m r s p q e =
    let first = same_front (codes "<circle cx=\"") (centre_text c ++ circle_text style n) r (centre_text d ++ circle_text style m) s e in
    let centre =
    corner_cut 34 (codes " cy=\"") refl c d (circle_text style n ++ r) (circle_text style m ++ s) p.0 q.0 refl refl
    (shift (centre_text c) (circle_text style n) r (centre_text d) (circle_text style m) s first) in
    let circle = circle_cut style n m r s p.1 q.1 centre.1 in
    (ap₂ Marker centre.0 circle.0, circle.1)

label_tells : (style : Style) (c d : Corner) (x y r s : List ℕ) → IsWritable style (Label c x) → IsWritable style (Label d y)
    → element_text style (Label c x) ++ r ≡ element_text style (Label d y) ++ s → Tells style (Label c x) (Label d y) r s
label_tells style c d x y r s p q e =
    let first = same_front (codes "<text x=\"") (place_text c ++ label_text style x) r (place_text d ++ label_text style y) s e in
    let place =
    corner_cut 34 (codes " y=\"") refl c d (label_text style x ++ r) (label_text style y ++ s) p q refl refl
    (shift (place_text c) (label_text style x) r (place_text d) (label_text style y) s first) in
    let name = label_cut style x y r s place.1 in
    (ap₂ Label place.0 name.0, name.1)

-- ---- kinds

-- the mark by which a text tells the kind of its first element: its second byte, and of a path the first of its class
abbrev mark_of : List ℕ → ℕ
mark_of text = cond (get_or text 1 0 == 112) (1000 + get_or text 13 0) (get_or text 1 0)

abbrev kind_of : Element → ℕ
kind_of (Head bounds) = 115
kind_of (OnSegment seg line path colour name) = 1115
kind_of (AtNode node line start end colour) = 1110
kind_of (Marker centre radius) = 99
kind_of (Label place name) = 116
kind_of Tail = 47

marked : (style : Style) (e : Element) (r : List ℕ) → mark_of (element_text style e ++ r) ≡ kind_of e
marked style (Head bounds) r = refl
marked style (OnSegment seg line path colour name) r = refl
marked style (AtNode node line start end colour) r = refl
marked style (Marker centre radius) r = refl
marked style (Label place name) r = refl
marked style Tail r = refl

pub one_tells : (style : Style) (e f : Element) (r s : List ℕ) → IsWritable style e → IsWritable style f → element_text style e ++ r ≡ element_text style f ++ s → Tells style e f r s
one_tells style e f r s p q h = by e f p q h (sym (marked style e r) ∙ ap mark_of h ∙ marked style f s)
  where
    by : (e f : Element) → IsWritable style e → IsWritable style f → element_text style e ++ r ≡ element_text style f ++ s → kind_of e ≡ kind_of f → Tells style e f r s
    by (Head a) (Head b) p q h same = head_tells style a b r s p q h
    by (OnSegment n k cs a x) (OnSegment m l ds b y) p q h same = segment_tells style n m k l cs ds a b x y r s p q h
    by (AtNode n k c u a) (AtNode m l d v b) p q h same = node_tells style n m k l c d u v a b r s p q h
    by (Marker c n) (Marker d m) p q h same = marker_tells style c d n m r s p q h
    by (Label c x) (Label d y) p q h same = label_tells style c d x y r s p q h
    by Tail Tail p q h same = (refl, append_cancel_left (codes "</svg>\n") r s h)
    by e f p q h same = absurd (omega (arith, same))

-- an element has a text
some_text : (style : Style) (e : Element) (r : List ℕ) → element_text style e ++ r ≡ [] → ⊥
some_text style e r h = by e (sym (marked style e r) ∙ ap mark_of h)
  where
    by : (e : Element) → kind_of e ≡ 0 → ⊥
    by (Head bounds) same = omega (arith, same)
    by (OnSegment seg line path colour name) same = omega (arith, same)
    by (AtNode node line start end colour) same = omega (arith, same)
    by (Marker centre radius) same = omega (arith, same)
    by (Label place name) same = omega (arith, same)
    by Tail same = omega (arith, same)

pub text_tells : (style : Style) (es fs : List Element) → AllByRecursion (IsWritable style) es → AllByRecursion (IsWritable style) fs → texts style es ≡ texts style fs
    → map as_written es ≡ map as_written fs
text_tells style [] [] p q h = refl
text_tells style [] (f ∷ fs) p q h = absurd (some_text style f (texts style fs) (sym h))
text_tells style (e ∷ es) [] p q h = absurd (some_text style e (texts style es) h)
text_tells style (e ∷ es) (f ∷ fs) p q h =
    let first = one_tells style e f (texts style es) (texts style fs) p.0 q.0 h in
    ap₂ (λ (x : Element) (xs : List Element). x ∷ xs) first.0 (text_tells style es fs p.1 q.1 first.1)
