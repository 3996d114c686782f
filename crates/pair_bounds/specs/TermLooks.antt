-- What a term of a pair of lines is where a prefix stands.
use Rattle.std.specs.Prelude.{ℕ, ◌==◌, nat_lt, Bool, true, false, List, [], ◌∷◌, if◌then◌else◌}
use Rattle.map_base.specs.declared.ids.SegId.{SegId}
use Rattle.map_base.specs.declared.ids.LineId.{LineId}
use Rattle.order_model.specs.declared.term.Term.{Term}
use Rattle.order_model.specs.declared.term.Term.TheVariants as term
use Rattle.order_model.specs.Problems.{lines_on}
use Rattle.order_model.specs.Costs.{comes_before, same_answer}
use Rattle.order_model.specs.Looks.{is_decided}
use Rattle.pair_bounds.specs.declared.term_look.TermLook.{TermLook}
use Rattle.pair_bounds.specs.declared.term_look.TermLook.TheVariants.{Decided, OnSegment, Between}
use Rattle.order_bound.specs.declared.pairs.OpenLink.{OpenLink}

-- what a Link costs by whether its first line stands first on each of its segments
abbrev pub link_by : Bool → ℕ → Bool → Bool → ℕ
link_by flip w here there = if same_answer flip (same_answer here there) then w else 0

-- what a Side is: decided; or open on its segment, where it wants its first line first
abbrev pub side_look : List (List LineId) → SegId → LineId → LineId → ℕ → TermLook
side_look placed seg first second w =
    if is_decided placed seg first second then Decided (if comes_before (lines_on placed seg) second first then w else 0)
    else OnSegment seg (if nat_lt first.0 second.0 then 0 else w) (if nat_lt first.0 second.0 then w else 0)

-- what a Link is: decided; or open on that segment where it is not decided; or between two segments
abbrev pub link_look : List (List LineId) → OpenLink → LineId → LineId → TermLook
link_look placed l a b =
    if is_decided placed l.seg a b
    then (if is_decided placed l.other a b
    then Decided (link_by l.flip l.weight (comes_before (lines_on placed l.seg) a b) (comes_before (lines_on placed l.other) a b))
    else OnSegment l.other (link_by l.flip l.weight (comes_before (lines_on placed l.seg) a b) true) (link_by l.flip l.weight (comes_before (lines_on placed l.seg) a b) false))
    else (if is_decided placed l.other a b
    then OnSegment l.seg (link_by l.flip l.weight true (comes_before (lines_on placed l.other) a b)) (link_by l.flip l.weight false (comes_before (lines_on placed l.other) a b))
    else Between l)

-- what a term is; an Apart is not counted for its pair
abbrev pub look_of : List (List LineId) → List (List LineId) → ℕ → Term → TermLook
look_of segs placed k (term.Side seg first second w) = side_look placed seg first second w
look_of segs placed k (term.Link seg other flip a b w) = link_look placed (record { number = k; seg = seg; other = other; flip = flip; weight = w }) a b
look_of segs placed k (term.Apart seg other a b w) = Decided 0

-- what a look adds to what is decided
abbrev pub look_decided : TermLook → ℕ
look_decided (Decided cost) = cost
look_decided (OnSegment seg lesser_first greater_first) = 0
look_decided (Between link) = 0

-- what it adds on a segment by the answer there
abbrev pub look_open : SegId → Bool → TermLook → ℕ
look_open s x (Decided cost) = 0
look_open s x (OnSegment seg lesser_first greater_first) = if seg.0 == s.0 then (if x then lesser_first else greater_first) else 0
look_open s x (Between link) = 0

-- the open Link that it is
abbrev pub look_link : TermLook → List OpenLink
look_link (Decided cost) = []
look_link (OnSegment seg lesser_first greater_first) = []
look_link (Between link) = link ∷ []
