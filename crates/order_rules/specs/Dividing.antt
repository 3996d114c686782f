-- The lines of a segment become two segments' lines, where one group of them can stand before the rest.
use Rattle.std.specs.Prelude.{ℕ, zero, suc, ◌*◌, ◌==◌, nat_le, nat_lt, Bool, true, false, ◌&&◌, ◌||◌, not, List, [], ◌∷◌, ◌++◌, length, map, filter, if◌then◌else◌, slice_set}
use Rattle.std.specs.List.{list_any, list_all}
use Rattle.map_base.specs.declared.ids.SegId.{SegId}
use Rattle.map_base.specs.declared.ids.LineId.{LineId}
use Rattle.order_model.specs.declared.term.Term.{Term}
use Rattle.order_model.specs.declared.term.Term.TheVariants.{Side, Link, Apart}
use Rattle.order_model.specs.declared.problem.ProblemParts.{ProblemParts}
use Rattle.order_model.specs.Problems.{lines_on}
use Rattle.order_model.specs.Costs.{are_these}
use Rattle.order_model.specs.Places.{has_line}
use Rattle.order_rules.specs.PairWeights.{is_side, is_apart, is_on, is_of_lines, weight_where, most_over_pairs}
use Rattle.order_rules.specs.Merging.{renamed, turned}

-- there are none
abbrev pub are_none : List LineId → Bool
are_none [] = true
are_none (a ∷ lines) = false

-- lines rise strictly
abbrev pub is_rising : List LineId → Bool
is_rising [] = true
is_rising (a ∷ []) = true
is_rising (a ∷ b ∷ lines) = nat_lt a.0 b.0 && is_rising (b ∷ lines)

-- the lines that are not of the group, in their order
abbrev pub others : List LineId → List LineId → List LineId
others lines group = filter (λ b. not (has_line group b)) lines

-- the greatest weight that the Aparts of two lines on a segment have together
abbrev pub most_apart : List (List LineId) → List Term → SegId → ℕ
most_apart segs terms e = most_over_pairs (λ a b. weight_where (λ t. is_apart t && is_on e t && is_of_lines a b t) terms) (lines_on segs e)

-- the term speaks against a line a that stands before b on the segment whatever else: a Link or an Apart of the two, or
-- a Side whose first line is b
abbrev pub is_against : SegId → LineId → LineId → Term → Bool
is_against e a b (Side seg first second w) = seg.0 == e.0 && first.0 == b.0 && second.0 == a.0
is_against e a b (Link seg other flip x y w) = (seg.0 == e.0 || other.0 == e.0) && are_these x y a b
is_against e a b (Apart seg other x y w) = (seg.0 == e.0 || other.0 == e.0) && are_these x y a b

-- line a can stand before b: no term on the segment speaks against it, and the Sides of the two there weigh at least
-- twice the greatest weight of Aparts
abbrev pub can_part : ℕ → List Term → SegId → LineId → LineId → Bool
can_part most terms e a b =
    list_all (λ t. not (is_against e a b t)) terms
    && nat_le (2 * most) (weight_where (λ t. is_side t && is_on e t && is_of_lines a b t) terms)

-- the group is rising lines of these, some and not all
abbrev pub is_group : List LineId → List LineId → Bool
is_group lines group = is_rising group && list_all (has_line lines) group && not (are_none group) && not (are_none (others lines group))

-- the group can stand before the other lines of the segment: each of its lines can stand before each of them
abbrev pub divide_applies : ProblemParts → SegId → List LineId → Bool
divide_applies p e group =
    is_group (lines_on p.segs e) group
    && list_all (λ a. list_all (can_part (most_apart p.segs p.terms e) p.terms e a) (others (lines_on p.segs e) group)) group

-- the line is one of the group, or some line of the group can't stand before it
abbrev pub is_held : ℕ → List Term → SegId → List LineId → LineId → Bool
is_held most terms e group b = has_line group b || list_any (λ a. not (can_part most terms e a b)) group

-- the group grown so often by the lines that are held
abbrev pub grown : ℕ → List Term → SegId → List LineId → ℕ → List LineId → List LineId
grown most terms e lines zero group = group
grown most terms e lines (suc n) group = grown most terms e lines n (filter (is_held most terms e group) lines)

-- the least group that has a line of the segment and each line that is held
abbrev pub closure : ProblemParts → SegId → LineId → List LineId
closure p e a = grown (most_apart p.segs p.terms e) p.terms e (lines_on p.segs e) (length (lines_on p.segs e)) (a ∷ [])

-- a line is one of the two of the term
abbrev pub is_with : List LineId → Term → Bool
is_with lines (Side seg first second w) = has_line lines first || has_line lines second
is_with lines (Link seg other flip a b w) = has_line lines a || has_line lines b
is_with lines (Apart seg other a b w) = has_line lines a || has_line lines b

-- the term is on the segment, of a line of the group and another
abbrev pub is_across : SegId → List LineId → List LineId → Term → Bool
is_across e group rest t = is_on e t && is_with group t && is_with rest t

-- another segment's number in place of e
abbrev pub renumbered : SegId → SegId → Term → Term
renumbered e new (Side seg first second w) = Side (renamed new e seg) first second w
renumbered e new (Link seg other flip a b w) = turned (Link (renamed new e seg) (renamed new e other) flip a b w)
renumbered e new (Apart seg other a b w) = turned (Apart (renamed new e seg) (renamed new e other) a b w)

-- what becomes of a term that is not across: on e it goes with its lines
abbrev pub sent : SegId → SegId → List LineId → Term → Term
sent e new rest t = if is_on e t && is_with rest t then renumbered e new t else t

-- the problem after the division: the segment keeps the group, and a new last segment has its other lines
abbrev pub divided : ProblemParts → SegId → List LineId → ProblemParts
divided p e group =
    let rest = others (lines_on p.segs e) group in
    record {
      segs = slice_set p.segs e.0 group ++ rest ∷ [];
      terms = map (sent e (record { 0 = length p.segs }) rest) (filter (λ t. not (is_across e group rest t)) p.terms);
    }
