-- What the terms of two lines on a segment weigh together.
use Rattle.std.specs.Prelude.{ℕ, ◌+◌, ◌*◌, ◌<◌, ◌^◌, nat_le, Bool, true, false, ◌&&◌, ◌||◌, not, List, [], ◌∷◌, max, if◌then◌else◌}
use Rattle.std.specs.List.{list_any}
use Rattle.map_base.specs.declared.ids.SegId.{SegId}
use Rattle.map_base.specs.declared.ids.LineId.{LineId}
use Rattle.order_model.specs.declared.term.Term.{Term}
use Rattle.order_model.specs.Costs.{weight_of}
use Rattle.order_model.specs.Parts.{is_between}
use Rattle.order_rules.specs.PairWeights.{is_side, is_link, is_apart, is_on, is_of_lines, weight_where}
use Rattle.order_rules.specs.Merging.{link_weight, apart_weight, weight_beside, aparts_beside}
use Rattle.order_rules.specs.Dividing.{is_against}
use Rattle.order_sums.specs.declared.pair_sums.PairSums.{PairSums}

-- the sums of no terms
abbrev pub no_sums : PairSums
no_sums = record {
  links = 0;
  aparts = 0;
  beside = 0;
  aparts_beside = 0;
  sides = 0;
  all_aparts = 0;
  against = false;
  against_turned = false;
}

-- what the terms of lines a and b weigh on f, and between e and f
abbrev pub pair_sums : SegId → SegId → List Term → LineId → LineId → PairSums
pair_sums e f terms a b = record {
  links = link_weight e f terms a b;
  aparts = apart_weight e f terms a b;
  beside = weight_beside e f terms a b;
  aparts_beside = aparts_beside e f terms a b;
  sides = weight_where (λ t. is_side t && is_on f t && is_of_lines a b t) terms;
  all_aparts = weight_where (λ t. is_apart t && is_on f t && is_of_lines a b t) terms;
  against = list_any (is_against f a b) terms;
  against_turned = list_any (is_against f b a) terms;
}

-- the weight of a term that passes a test
abbrev pub weight_if : Bool → Term → ℕ
weight_if passes t = if passes then weight_of t else 0

-- the sums with one more term of the two lines
abbrev pub with_sum : PairSums → SegId → SegId → LineId → LineId → Term → PairSums
with_sum s e f a b t = record {
  links = s.links + weight_if (is_link t && is_between t e.0 f.0) t;
  aparts = s.aparts + weight_if (is_apart t && is_between t e.0 f.0) t;
  beside = s.beside + weight_if (not (is_apart t) && (is_on f t && not (is_between t e.0 f.0))) t;
  aparts_beside = s.aparts_beside + weight_if (is_apart t && (is_on f t && not (is_between t e.0 f.0))) t;
  sides = s.sides + weight_if (is_side t && is_on f t) t;
  all_aparts = s.all_aparts + weight_if (is_apart t && is_on f t) t;
  against = s.against || is_against f a b t;
  against_turned = s.against_turned || is_against f b a t;
}

-- no sum is near its limit
pub record IsSmall (s : PairSums) : Type 0 where
  pub links_small : s.links < 2 ^ 63
  pub aparts_small : s.aparts < 2 ^ 63
  pub beside_small : s.beside < 2 ^ 63
  pub aparts_beside_small : s.aparts_beside < 2 ^ 63
  pub sides_small : s.sides < 2 ^ 63
  pub all_aparts_small : s.all_aparts < 2 ^ 63

-- the weight of the term is at most the greatest of a problem
abbrev pub is_light : Term → Bool
is_light t = nat_le (weight_of t) 256000

-- what lies between the two segments outweighs the rest
abbrev pub sums_outweigh : PairSums → Bool
sums_outweigh s = nat_le s.beside s.links && nat_le s.aparts_beside s.aparts

-- one line can stand before the other, where a term speaks against it or none, and their Sides weigh so much
abbrev pub sums_part : ℕ → Bool → ℕ → Bool
sums_part most against sides = not against && nat_le (2 * most) sides

-- the greatest weight of Aparts among these sums
abbrev pub most_aparts : List PairSums → ℕ
most_aparts [] = 0
most_aparts (s ∷ row) = max s.all_aparts (most_aparts row)

-- each of these sums, but where there is a mark, says that its line can stand after
abbrev pub each_parts : ℕ → List Bool → List PairSums → Bool
each_parts most [] row = true
each_parts most (m ∷ marks) [] = true
each_parts most (m ∷ marks) (s ∷ row) = (m || sums_part most s.against s.sides) && each_parts most marks row
