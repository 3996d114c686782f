-- Pairs of lines, the segments on which they are still open, and the Links between these.
use Rattle.std.specs.Prelude.{◌≡◌, false, ℕ, ◌==◌, nat_lt, Bool, ◌&&◌, ◌||◌, not, List, [], ◌∷◌, ◌++◌, filter, if◌then◌else◌}
use Rattle.std.specs.List.{list_any}
use Rattle.map_base.specs.declared.ids.SegId.{SegId}
use Rattle.map_base.specs.declared.ids.LineId.{LineId}
use Rattle.order_model.specs.declared.term.Term.{Term}
use Rattle.order_model.specs.declared.term.Term.TheVariants.{Side, Link, Apart}
use Rattle.order_model.specs.Problems.{lines_on}
use Rattle.order_model.specs.Places.{has_line}
use Rattle.order_model.specs.Looks.{is_decided}
use Rattle.order_model.specs.PartTerms.{is_in}
pub use Rattle.order_bound.specs.declared.pairs.Pair.{Pair}
pub use Rattle.order_bound.specs.declared.pairs.OpenLink.{OpenLink}

-- the pair of two lines
abbrev pub pair_of : LineId → LineId → Pair
pair_of a b = if nat_lt a.0 b.0 then record { lesser = a; greater = b } else record { lesser = b; greater = a }

-- the pair of a term
abbrev pub pair_in : Term → Pair
pair_in (Side seg first second w) = pair_of first second
pair_in (Link seg other flip a b w) = pair_of a b
pair_in (Apart seg other a b w) = pair_of a b

-- two pairs are the same
abbrev pub is_pair : Pair → Pair → Bool
is_pair p q = p.lesser.0 == q.lesser.0 && p.greater.0 == q.greater.0

-- the pair is one of these
abbrev pub has_pair : List Pair → Pair → Bool
has_pair pairs p = list_any (is_pair p) pairs

-- the pairs of terms that are none of the known ones, each once, in the order in which they stand first
abbrev pub pairs_after : List Pair → List (ℕ × Term) → List Pair
pairs_after known [] = []
pairs_after known (t ∷ terms) =
    if has_pair known (pair_in t.1) then pairs_after known terms else pair_in t.1 ∷ pairs_after (pair_in t.1 ∷ known) terms

-- the pairs of terms, each once
abbrev pub pairs_of : List (ℕ × Term) → List Pair
pairs_of terms = pairs_after [] terms

-- no segment stands twice
abbrev pub AreApartSegments : List SegId → Type 0
AreApartSegments [] = Unit {0}
AreApartSegments (s ∷ rest) = (is_in rest s ≡ false) × AreApartSegments rest

-- both lines stand on the segment, and neither is placed there
abbrev pub is_open_on : List (List LineId) → List (List LineId) → Pair → SegId → Bool
is_open_on segs placed p s =
    (has_line (lines_on segs s) p.lesser && has_line (lines_on segs s) p.greater) && not (is_decided placed s p.lesser p.greater)

-- the segments of a part on which the pair is not decided
abbrev pub open_segments : List (List LineId) → List (List LineId) → List SegId → Pair → List SegId
open_segments segs placed part p = filter (is_open_on segs placed p) part

-- the term, if it is an open Link of the pair
abbrev pub open_link : List (List LineId) → Pair → ℕ → Term → List OpenLink
open_link placed p k (Side seg first second w) = []
open_link placed p k (Link seg other flip a b w) =
    if is_pair p (pair_of a b) && not (is_decided placed seg a b || is_decided placed other a b)
    then record { number = k; seg = seg; other = other; flip = flip; weight = w } ∷ [] else []
open_link placed p k (Apart seg other a b w) = []

-- the open Links of a pair, in their order
abbrev pub open_links : List (List LineId) → Pair → List (ℕ × Term) → List OpenLink
open_links placed p [] = []
open_links placed p (t ∷ terms) = open_link placed p t.0 t.1 ++ open_links placed p terms

-- once segments e and f are joined, the segments of f's class have the label of e
abbrev pub joined : (ℕ → ℕ) → ℕ → ℕ → ℕ → ℕ
joined label e f s = if label s == label f then label e else label s

-- the labels once these Links have joined their classes
abbrev pub labels_after : (ℕ → ℕ) → List OpenLink → ℕ → ℕ
labels_after label [] s = label s
labels_after label (l ∷ links) s = labels_after (joined label l.seg.0 l.other.0) links s

-- of these Links, in their order, each that joins two classes of segments; with a label for each class
abbrev pub kept : (ℕ → ℕ) → List OpenLink → List OpenLink
kept label [] = []
kept label (l ∷ links) =
    if label l.seg.0 == label l.other.0 then kept label links else l ∷ kept (joined label l.seg.0 l.other.0) links

-- the open Links of a pair that are kept: each that closes no cycle of segments with those kept before it
abbrev pub kept_links : List (List LineId) → Pair → List (ℕ × Term) → List OpenLink
kept_links placed p terms = kept (λ s. s) (open_links placed p terms)
