-- The places of a part's terms, term by term, and what one Link adds there.
use Rattle.std.specs.Prelude.{ℕ, ◌≤◌, ◌==◌, Bool, false, ◌&&◌, ◌||◌, List, take, All, if◌then◌else◌}
use Rattle.std.specs.Prelude.{ℤ, pos, ◌-ℤ◌, unsigned_abs}
use Rattle.map_base.specs.declared.ids.SegId.{SegId}
use Rattle.map_base.specs.declared.ids.LineId.{LineId}
use Rattle.order_model.specs.declared.term.Term.{Term}
use Rattle.order_model.specs.declared.term.Term.TheVariants.{Side, Link, Apart}
use Rattle.order_model.specs.Problems.{lines_on}
use Rattle.order_model.specs.Costs.{comes_before, same_answer}
use Rattle.order_model.specs.Looks.{is_decided}
use Rattle.order_model.specs.PartTerms.{part_terms}
use Rattle.order_bound.specs.declared.pairs.Pair.{Pair}
use Rattle.order_bound.specs.declared.pairs.OpenLink.{OpenLink}
use Rattle.order_bound.specs.Pairs.{pair_of, is_pair}
use Rattle.order_bound.specs.Values.{where_one, is_one, is_one_there}
use Rattle.order_values.specs.PriceLists.{price_at}

-- no price is above the greatest weight either way
abbrev pub AreSmallPrices : List (ℕ × ℤ) → Type 0
AreSmallPrices prices = All (λ (q : ℕ × ℤ). unsigned_abs q.1 ≤ 256000) prices

-- a pair on a segment is that of two lines on one
abbrev pub is_at : SegId → Pair → SegId → LineId → LineId → Bool
is_at at p s a b = is_pair p (pair_of a b) && s.0 == at.0

-- a Side or a Link of the pair has an end on the segment
abbrev pub has_end : SegId → Pair → Term → Bool
has_end at p (Side seg first second w) = is_at at p seg first second
has_end at p (Link seg other flip a b w) = is_at at p seg a b || is_at at p other a b
has_end at p (Apart seg other a b w) = false

-- the part's terms among the first so many of the problem
abbrev pub terms_before : List Term → List SegId → ℕ → List (ℕ × Term)
terms_before terms part n = part_terms (take n terms) part

-- what a Link adds on its segment by the order of its lines there: nothing where they are decided; its cost where they are
-- decided on its other segment; else its share of its price
abbrev pub here_share : List (List LineId) → List (ℕ × ℤ) → Bool → OpenLink → LineId → LineId → ℤ
here_share placed prices lesser_first l a b =
    if is_decided placed l.seg a b then pos 0
    else if is_decided placed l.other a b
    then pos (if same_answer l.flip (same_answer lesser_first (comes_before (lines_on placed l.other) a b)) then l.weight else 0)
    else where_one (is_one lesser_first) (pos 0 -ℤ price_at prices l.number)

-- what a Link adds on its other segment by the order of its lines there: nothing where they are decided; its cost where
-- they are decided on its own segment; else its share of its price
abbrev pub there_share : List (List LineId) → List (ℕ × ℤ) → Bool → OpenLink → LineId → LineId → ℤ
there_share placed prices lesser_first l a b =
    if is_decided placed l.other a b then pos 0
    else if is_decided placed l.seg a b
    then pos (if same_answer l.flip (same_answer (comes_before (lines_on placed l.seg) a b) lesser_first) then l.weight else 0)
    else where_one (is_one_there l lesser_first) (price_at prices l.number)

-- what a Link adds for a pair on a segment
abbrev pub link_share : List (List LineId) → List (ℕ × ℤ) → SegId → Pair → Bool → OpenLink → LineId → LineId → ℤ
link_share placed prices at p lesser_first l a b =
    if is_at at p l.seg a b then here_share placed prices lesser_first l a b
    else if is_at at p l.other a b then there_share placed prices lesser_first l a b
    else pos 0
