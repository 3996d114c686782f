-- A name, written character by character.
use Rattle.std.proofs.Common.{◌≡◌, ℕ, ◌+◌, ◌<◌, List, ◌++◌, length, get_or, drop, ap, sym, ◌∙◌, append_assoc, append-nil, arith}
use Rattle.std.specs.List.{flat_map}
use Rattle.std.proofs.lemmas.List.{drop_more, at_drop_all}
use Rattle.map_base.specs.declared.ids.LineId.{LineId}
use Rattle.svg_writer.specs.declared.names.Names.{Names}
use Rattle.svg_writer.specs.declared.style.Style.{Style}
use Rattle.svg_writer.specs.Courses.{Courses}
use Rattle.svg_writer.specs.Elements.{texts}
use Rattle.svg_writer.specs.Picture.{no_line, line_text, line_elements}

-- one more thing is written, and the rest is left
pub written_more : {A : Type 0} (f : A → List ℕ) (xs : List A) (i : ℕ) (d x : A) (before after whole : List ℕ) → i < length xs → x ≡ get_or xs i d → after ≡ before ++ f x
    → before ++ flat_map f (drop i xs) ≡ whole → after ++ flat_map f (drop (i + 1) xs) ≡ whole
written_more f xs i d x before after whole low is grew all =
    ap (λ (bytes : List ℕ). bytes ++ flat_map f (drop (i + 1) xs)) grew
    ∙ append_assoc before (f x) (flat_map f (drop (i + 1) xs))
    ∙ ap (λ y. before ++ (f y ++ flat_map f (drop (i + 1) xs))) is
    ∙ sym (ap (λ ys. before ++ flat_map f ys) (drop_more xs i d low))
    ∙ all

-- nothing is left
pub written_all : {A : Type 0} (f : A → List ℕ) (xs : List A) (i : ℕ) (before whole : List ℕ) → length xs ≡ i → before ++ flat_map f (drop i xs) ≡ whole → before ≡ whole
written_all f xs i before whole end all =
    sym (append-nil before) ∙ sym (at_drop_all (λ ys. before ++ flat_map f ys) xs i (omega arith)) ∙ all

-- one line more of a segment
pub line_more : (style : Style) (names : Names) (drawn : Courses) (s n i : ℕ) (order : List LineId) (before after whole : List ℕ) → i < length order
    → after ≡ before ++ line_text style names drawn s n i (get_or order i no_line)
    → before ++ texts style (line_elements names drawn s n i (drop i order)) ≡ whole → after ++ texts style (line_elements names drawn s n (i + 1) (drop (i + 1) order)) ≡ whole
line_more style names drawn s n i order before after whole low grew all =
    let l = get_or order i no_line in
    let rest = texts style (line_elements names drawn s n (i + 1) (drop (i + 1) order)) in
    ap (λ (bytes : List ℕ). bytes ++ rest) grew
    ∙ append_assoc before (line_text style names drawn s n i l) rest
    ∙ sym (ap (λ (ls : List LineId). before ++ texts style (line_elements names drawn s n i ls)) (drop_more order i no_line low))
    ∙ all
