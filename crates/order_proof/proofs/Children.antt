-- Cases of a split, one more behind them.
use Rattle.std.proofs.Common.{◌≡◌, ℕ, suc, ◌≤◌, ℤ, Bool, true, false, ◌||◌, ◌==◌, true≢false, List, [], ◌∷◌, ◌++◌, Vec, Global, refl, ap, sym, ◌∙◌, append_assoc, arith}
use Rattle.std.proofs.lemmas.Bool.{eqb-true, eq-eqb}
use Rattle.std.proofs.lemmas.List.{append-nil}
use Rattle.map_base.specs.declared.ids.SegId.{SegId}
use Rattle.map_base.specs.declared.ids.LineId.{LineId}
use Rattle.order_proof.specs.declared.tree.Tree.{Tree, Split, Close}
use Rattle.order_proof.specs.Plain.{PlainTree, split, Cases, no_case, case_of, plain, plain_children}
use Rattle.order_proof.specs.Trees.{depth_of, depth_of_cases, count_of, lines_of, is_among, AreDistinct}
use Rattle.order_proof.specs.Lines.{line_text, take_line}
use Rattle.order_proof.specs.Text.{tree_text, cases_text}
use Rattle.order_proof.specs.Forms.{most_id}
use Rattle.order_proof.specs.Ranges.{IsTreeInRange, AreCasesInRange}
use Rattle.order_proof.specs.Begun.{cases_in, with_cases, with_case}
use Rattle.order_proof.proofs.Views.{plain-Split, plain-Close}

pub children_push : (cs : List (LineId × Tree)) (a : LineId) (t : Tree) → plain_children (cs ++ (a, t) ∷ []) ≡ with_case (plain_children cs) a (plain t)
children_push [] a t = refl
children_push (c ∷ cs) a t = ap (case_of c.0 (plain c.1)) (children_push cs a t)

-- a case more of a closed tree is none, and of a split one behind the others
pub pushed_closed : (tree : Tree) (prices : List (ℕ × ℤ)) (cases : Cases) → tree ≡ Close prices → plain tree ≡ with_cases (plain tree) cases
pushed_closed tree prices cases is =
    let closed = ap plain is ∙ plain-Close prices in
    closed ∙ sym (ap (λ (t : PlainTree). with_cases t cases) closed)

pub pushed_split : (old new : Tree) (seg : SegId) (children more : Vec (LineId × Tree) Global) (a : LineId) (t u : Tree) (before : List (LineId × Tree)) → old ≡ Split seg children
    → more.items ≡ before ++ (a, u) ∷ [] → u ≡ t → before ≡ children.items → new ≡ Split seg more → plain new ≡ with_cases (plain old) (with_case (cases_in (plain old)) a (plain t))
pushed_split old new seg children more a t u before was pushed is same made =
    ap plain made ∙ plain-Split seg more
    ∙ ap (split seg) (ap plain_children (pushed ∙ ap (λ (v : Tree). before ++ (a, v) ∷ []) is ∙ ap (λ (cs : List (LineId × Tree)). cs ++ (a, t) ∷ []) same) ∙ children_push children.items a t)
    ∙ sym (ap (λ (p : PlainTree). with_cases p (with_case (cases_in p) a (plain t))) (ap plain was ∙ plain-Split seg children))

pub count_push : (cs : Cases) (a : LineId) (t : PlainTree) → count_of (with_case cs a t) ≡ suc (count_of cs)
count_push no_case a t = refl
count_push (case_of b u cs) a t = ap suc (count_push cs a t)

pub lines_push : (cs : Cases) (a : LineId) (t : PlainTree) → lines_of (with_case cs a t) ≡ lines_of cs ++ a ∷ []
lines_push no_case a t = refl
lines_push (case_of b u cs) a t = ap (λ (ls : List LineId). b ∷ ls) (lines_push cs a t)

pub text_push : (cs : Cases) (a : LineId) (t : PlainTree) → cases_text (with_case cs a t) ≡ cases_text cs ++ (line_text (take_line a) ++ tree_text t)
text_push no_case a t = ap (λ (bytes : List ℕ). line_text (take_line a) ++ bytes) (append-nil (tree_text t))
text_push (case_of b u cs) a t =
    ap (λ (bytes : List ℕ). line_text (take_line b) ++ (tree_text u ++ bytes)) (text_push cs a t)
    ∙ ap (λ (bytes : List ℕ). line_text (take_line b) ++ bytes) (sym (append_assoc (tree_text u) (cases_text cs) (line_text (take_line a) ++ tree_text t)))
    ∙ sym (append_assoc (line_text (take_line b)) (tree_text u ++ cases_text cs) (line_text (take_line a) ++ tree_text t))

pub range_push : (cs : Cases) (a : LineId) (t : PlainTree) → AreCasesInRange cs → a.0 ≤ most_id → IsTreeInRange t → AreCasesInRange (with_case cs a t)
range_push no_case a t cases line tree = (line, tree, tt)
range_push (case_of b u cs) a t cases line tree = (cases.0, cases.1, range_push cs a t cases.2 line tree)

pub depth_push : (room : ℕ) (cs : Cases) (a : LineId) (t : PlainTree) → depth_of_cases cs ≤ room → depth_of t ≤ room → depth_of_cases (with_case cs a t) ≤ room
depth_push room no_case a t cases tree = omega arith
depth_push room (case_of b u cs) a t cases tree = omega (arith, depth_push room cs a t (omega arith) tree)

or_parts : (a b : Bool) → (a || b) ≡ false → (a ≡ false) × (b ≡ false)
or_parts true b e = absurd cc
or_parts false b e = (refl, e)

other_way : (m n : ℕ) → (m == n) ≡ false → (n == m) ≡ false
other_way m n e = by (n == m) refl
  where
    by : (t : Bool) → (n == m) ≡ t → t ≡ false
    by true same = absurd (true≢false (sym (eq-eqb m n (sym (eqb-true n m same))) ∙ e))
    by false same = refl

among_push : (lines : List LineId) (a b : LineId) → is_among lines b ≡ false → (a.0 == b.0) ≡ false → is_among (lines ++ a ∷ []) b ≡ false
among_push [] a b free other = ap (λ (t : Bool). t || false) other
among_push (l ∷ lines) a b free other = let parts = or_parts (l.0 == b.0) (is_among lines b) free in ap (λ (t : Bool). t || is_among (lines ++ a ∷ []) b) parts.0 ∙ among_push lines a b parts.1 other

pub distinct_push : (lines : List LineId) (a : LineId) → AreDistinct lines → is_among lines a ≡ false → AreDistinct (lines ++ a ∷ [])
distinct_push [] a distinct free = (refl, tt)
distinct_push (l ∷ lines) a distinct free =
    let parts = or_parts (l.0 == a.0) (is_among lines a) free in
    (among_push lines a l distinct.0 (other_way l.0 a.0 parts.0), distinct_push lines a distinct.1 parts.1)

among_middle : (lines : List LineId) (a b : LineId) (rest : List LineId) → is_among (lines ++ a ∷ rest) b ≡ false → (a.0 == b.0) ≡ false
among_middle [] a b rest free = (or_parts (a.0 == b.0) (is_among rest b) free).0
among_middle (l ∷ lines) a b rest free = among_middle lines a b rest (or_parts (l.0 == b.0) (is_among (lines ++ a ∷ rest) b) free).1

-- a line is not among those before it
pub distinct_middle : (lines : List LineId) (a : LineId) (rest : List LineId) → AreDistinct (lines ++ a ∷ rest) → is_among lines a ≡ false
distinct_middle [] a rest distinct = refl
distinct_middle (l ∷ lines) a rest distinct =
    ap (λ (t : Bool). t || is_among lines a) (other_way a.0 l.0 (among_middle lines a l rest distinct.0)) ∙ distinct_middle lines a rest distinct.1
