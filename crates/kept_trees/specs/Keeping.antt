-- Which parts are held, each part by itself, with how it was searched.
use Rattle.std.specs.Prelude.{◌≡◌, ℕ, ◌==◌, ◌&&◌, Bool, true, false, if◌then◌else◌}
use Rattle.std.specs.Prelude.{List, [], ◌∷◌, ◌++◌}
use Rattle.std.specs.List.{list_any}
use Rattle.std.specs.Option.{option_eq}
use Rattle.std.specs.Cmp.Lexicographic.{pointwise}
use Rattle.map_base.specs.declared.ids.SegId.{SegId}
use Rattle.map_base.specs.declared.ids.LineId.{LineId}
use Rattle.map_method.specs.declared.search.Search.{Search}
use Rattle.map_method.specs.declared.search.Search.TheVariants.{Live, Dual}
use Rattle.order_model.specs.declared.term.Term.{Term}
use Rattle.order_model.specs.declared.term.Term.TheVariants.{Side, Link, Apart}
use Rattle.order_model.specs.declared.problem.ProblemParts.{ProblemParts}
use Rattle.order_model.specs.Costs.{same_answer}
use Rattle.kept_trees.specs.OwnTrees.{HeldPart, spent_in, held_own, held_as}
use Rattle.kept_trees.specs.declared.plan.SearchPlan.{SearchPlan}
use Rattle.kept_trees.specs.declared.found_part.FoundPart.{FoundPart}
use Rattle.kept_trees.specs.Results.{own_outcome, branches_met, IsOwnFound}

-- the same lines in the same order
abbrev pub are_same_lines : List LineId → List LineId → Bool
are_same_lines = pointwise (λ (a b : LineId). a.0 == b.0)

-- the same lists of lines in the same order
abbrev pub are_same_segs : List (List LineId) → List (List LineId) → Bool
are_same_segs = pointwise are_same_lines

-- the same term
abbrev pub is_same_term : Term → Term → Bool
is_same_term (Side s a b w) (Side t c d v) = s.0 == t.0 && (a.0 == c.0 && (b.0 == d.0 && w == v))
is_same_term (Link s o f a b w) (Link t p g c d v) =
    s.0 == t.0 && (o.0 == p.0 && (same_answer f g && (a.0 == c.0 && (b.0 == d.0 && w == v))))
is_same_term (Apart s o a b w) (Apart t p c d v) = s.0 == t.0 && (o.0 == p.0 && (a.0 == c.0 && (b.0 == d.0 && w == v)))
is_same_term (Side s a b w) (Link t p g c d v) = false
is_same_term (Side s a b w) (Apart t p c d v) = false
is_same_term (Link s o f a b w) (Side t c d v) = false
is_same_term (Link s o f a b w) (Apart t p c d v) = false
is_same_term (Apart s o a b w) (Side t c d v) = false
is_same_term (Apart s o a b w) (Link t p g c d v) = false

-- the same terms in the same order
abbrev pub are_same_terms : List Term → List Term → Bool
are_same_terms = pointwise is_same_term

-- two parts by themselves are the same
abbrev pub is_same_part : ProblemParts → ProblemParts → Bool
is_same_part p q = are_same_segs p.segs q.segs && are_same_terms p.terms q.terms

-- the same search
abbrev pub is_same_search : Search → Search → Bool
is_same_search Live Live = true
is_same_search Live Dual = false
is_same_search Dual Live = false
is_same_search Dual Dual = true

-- the same part, searched in the same way
abbrev pub is_same_held : HeldPart → HeldPart → Bool
is_same_held h g = is_same_search h.how g.how && (option_eq ◌==◌ h.spent g.spent && is_same_part h.part g.part)

-- the part is one of those that are held
abbrev pub is_held : List HeldPart → HeldPart → Bool
is_held held h = list_any (is_same_held h) held

-- what is held is what the search finds, so that the part needs none
abbrev pub IsServed : List HeldPart → SearchPlan → ProblemParts → FoundPart → Type 0
IsServed held plan own f = IsOwnFound plan own f × (is_held held (held_own plan own) ≡ true)

-- the part is not held in this way, if it is the one in which what the search finds is held
abbrev pub IsMissing : List HeldPart → SearchPlan → HeldPart → Type 0
IsMissing held plan h = spent_in plan.budget (own_outcome plan h.part) ≡ h.spent → is_held held h ≡ false

-- the parts that are held, once this one is
abbrev pub with_part : List HeldPart → HeldPart → List HeldPart
with_part held h = if is_held held h then held else held ++ h ∷ []

-- how many branch nodes are to be met for a part of a problem: none where what is to be known is held, else those of
-- its search
abbrev pub branches_to_meet : List HeldPart → SearchPlan → ProblemParts → List SegId → ℕ
branches_to_meet held plan p part = if is_held held (held_as plan p part) then 0 else branches_met plan p part
