-- Two segments of the same lines become one, where that can't cost more.
use Rattle.std.specs.Prelude.{ℕ, ◌==◌, nat_le, Bool, true, false, ◌&&◌, ◌||◌, not, List, [], ◌∷◌, map, filter, nat_lt, if◌then◌else◌, slice_set}
use Rattle.std.specs.List.{list_any, list_all}
use Rattle.map_base.specs.declared.ids.SegId.{SegId}
use Rattle.map_base.specs.declared.ids.LineId.{LineId}
use Rattle.order_model.specs.declared.term.Term.{Term}
use Rattle.order_model.specs.declared.term.Term.TheVariants.{Side, Link, Apart}
use Rattle.order_model.specs.declared.problem.ProblemParts.{ProblemParts}
use Rattle.order_model.specs.Problems.{lines_on}
use Rattle.order_model.specs.Costs.{same_answer}
use Rattle.order_model.specs.Parts.{is_between}
use Rattle.order_rules.specs.PairWeights.{is_link, is_apart, is_on, is_of_lines, weight_where, all_pairs}

-- two lists of lines are equal
abbrev pub same_lines : List LineId → List LineId → Bool
same_lines [] [] = true
same_lines (a ∷ xs) (b ∷ ys) = a.0 == b.0 && same_lines xs ys
same_lines [] (b ∷ ys) = false
same_lines (a ∷ xs) [] = false

-- the term is a Link between the two segments
abbrev pub is_link_between : SegId → SegId → Term → Bool
is_link_between e f t = is_link t && is_between t e.0 f.0

-- a Link has this flip
abbrev pub has_flip : Bool → Term → Bool
has_flip flip (Side seg first second w) = false
has_flip flip (Link seg other turns a b w) = same_answer flip turns
has_flip flip (Apart seg other a b w) = false

-- the term of these two lines lies between the two segments
abbrev pub is_joining : SegId → SegId → LineId → LineId → Term → Bool
is_joining e f a b t = is_between t e.0 f.0 && is_of_lines a b t

-- the term of these two lines is on f, and does not lie between the two segments
abbrev pub is_beside : SegId → SegId → LineId → LineId → Term → Bool
is_beside e f a b t = (is_on f t && not (is_between t e.0 f.0)) && is_of_lines a b t

-- what the Links of two lines between e and f weigh, and what their Aparts there do
abbrev pub link_weight : SegId → SegId → List Term → LineId → LineId → ℕ
link_weight e f terms a b = weight_where (λ t. is_link t && is_joining e f a b t) terms

abbrev pub apart_weight : SegId → SegId → List Term → LineId → LineId → ℕ
apart_weight e f terms a b = weight_where (λ t. is_apart t && is_joining e f a b t) terms

-- what the other Sides and Links of two lines on f weigh, and what their other Aparts there do
abbrev pub weight_beside : SegId → SegId → List Term → LineId → LineId → ℕ
weight_beside e f terms a b = weight_where (λ t. not (is_apart t) && is_beside e f a b t) terms

abbrev pub aparts_beside : SegId → SegId → List Term → LineId → LineId → ℕ
aparts_beside e f terms a b = weight_where (λ t. is_apart t && is_beside e f a b t) terms

-- of two lines the other Sides and Links on f weigh at most as much as their Links between e and f, and the other
-- Aparts on f at most as much as their Aparts between e and f
abbrev pub outweighs : SegId → SegId → List Term → LineId → LineId → Bool
outweighs e f terms a b =
    nat_le (weight_beside e f terms a b) (link_weight e f terms a b) && nat_le (aparts_beside e f terms a b) (apart_weight e f terms a b)

-- a Link lies between the two segments, and all these Links have this flip
abbrev pub have_flip : SegId → SegId → Bool → List Term → Bool
have_flip e f flip terms = list_any (is_link_between e f) terms && list_all (λ t. not (is_link_between e f t) || has_flip flip t) terms

-- `from` can take its order from `into`, or with `flip` the reverse: they are two segments of equal lines with a Link
-- between them, all these Links have this flip, and for each two lines what lies between the two outweighs the rest on `from`
abbrev pub merge_applies : ProblemParts → SegId → SegId → Bool → Bool
merge_applies p into from flip =
    not (into.0 == from.0)
    && same_lines (lines_on p.segs into) (lines_on p.segs from)
    && have_flip into from flip p.terms
    && all_pairs (outweighs into from p.terms) (lines_on p.segs from)

-- e in place of f
abbrev pub renamed : SegId → SegId → SegId → SegId
renamed e f s = if s.0 == f.0 then e else s

-- a Link or an Apart whose lesser segment stands first
abbrev pub turned : Term → Term
turned (Side seg first second w) = Side seg first second w
turned (Link seg other flip a b w) = if nat_lt other.0 seg.0 then Link other seg flip a b w else Link seg other flip a b w
turned (Apart seg other a b w) = if nat_lt other.0 seg.0 then Apart other seg a b w else Apart seg other a b w

-- what becomes of a term that does not lie between the two segments: e stands in it for f, and where f was the reverse
-- of e its Side is the other way round and its Link changes its flip
abbrev pub moved : SegId → SegId → Bool → Term → Term
moved e f flip (Side seg first second w) = if seg.0 == f.0 && flip then Side e second first w else Side (renamed e f seg) first second w
moved e f flip (Link seg other turns a b w) =
    turned (Link (renamed e f seg) (renamed e f other) (if (seg.0 == f.0 || other.0 == f.0) && flip then not turns else turns) a b w)
moved e f flip (Apart seg other a b w) = turned (Apart (renamed e f seg) (renamed e f other) a b w)

-- the problem after the merge: `from` has no lines, and no term
abbrev pub merged : ProblemParts → SegId → SegId → Bool → ProblemParts
merged p into from flip = record {
  segs = slice_set p.segs from.0 [];
  terms = map (moved into from flip) (filter (λ t. not (is_between t into.0 from.0)) p.terms);
}
