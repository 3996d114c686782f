-- The test of a group, by the lines of its segment.
use Rattle.std.proofs.Common.{◌≡◌, Bool, ◌&&◌, List, ap, ◌∙◌}
use Rattle.std.specs.List.{list_all}
use Rattle.map_base.specs.declared.ids.SegId.{SegId}
use Rattle.map_base.specs.declared.ids.LineId.{LineId}
use Rattle.order_model.specs.declared.term.Term.{Term}
use Rattle.order_model.specs.declared.problem.ProblemParts.{ProblemParts}
use Rattle.order_model.specs.Problems.{lines_on}
use Rattle.order_rules.specs.PairWeights.{weight_where, most_over_pairs, is_apart, is_on, is_of_lines}
use Rattle.order_rules.specs.Dividing.{divide_applies, is_group, others, can_part}

abbrev pub applies_by : SegId → List LineId → List Term → List LineId → Bool
applies_by e group terms lines =
    is_group lines group
    && list_all (λ a. list_all (can_part (most_over_pairs (λ x y. weight_where (λ t. is_apart t && is_on e t && is_of_lines x y t) terms) lines) terms e a) (others lines group)) group

pub group_by : (p : ProblemParts) (e : SegId) (group : List LineId) (segs : List (List LineId)) (terms : List Term) (lines : List LineId) (r : Bool)
    → segs ≡ p.segs → terms ≡ p.terms → lines ≡ lines_on segs e → r ≡ applies_by e group terms lines → r ≡ divide_applies p e group
group_by p e group segs terms lines r same_segs same_terms same_lines h =
    h ∙ (ap (applies_by e group terms) (same_lines ∙ ap (λ (ss : List (List LineId)). lines_on ss e) same_segs)
    ∙ ap (λ (ts : List Term). applies_by e group ts (lines_on p.segs e)) same_terms)
