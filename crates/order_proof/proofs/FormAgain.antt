-- What is written of each form is read again.
use Rattle.std.proofs.Common.{◌≡◌, ℕ, zero, suc, ◌+◌, ◌≤◌, ℤ, pos, negsuc, Bool, true, false, cond, List, [], ◌∷◌, ◌++◌, length, Option, Some, None, option_map, refl, ap, ◌∙◌, lt-ltb, arith}
use Rattle.std.specs.Option.{option_and_then}
use Rattle.std.proofs.lemmas.Bool.{eq-eqb}
use Rattle.map_base.specs.declared.ids.SegId.{SegId}
use Rattle.map_base.specs.declared.ids.LineId.{LineId}
use Rattle.order_values.specs.declared.rule.Rule.{Rule}
use Rattle.order_values.specs.declared.rule.Rule.TheVariants.{Merge as merge_rule, Divide as divide_rule}
use Rattle.order_proof.specs.declared.line_word.LineWord.{LineWord}
use Rattle.order_proof.specs.declared.node_line.NodeLine.{NodeLine}
use Rattle.order_proof.specs.declared.node_line.NodeLine.TheVariants as nodes
use Rattle.order_proof.specs.declared.dual_line.DualLine.{DualLine}
use Rattle.order_proof.specs.declared.dual_line.DualLine.TheVariants as duals
use Rattle.order_proof.specs.Lines.{Line, line_text, bit, segment_numbers, line_numbers, price_numbers, rules_line, rule_line, parts_line, part_line, take_line, prices_line}
use Rattle.decimal_text.specs.Numbers.{natural_within, from_to}
use Rattle.order_proof.specs.FrontLine.{front}
use Rattle.order_proof.specs.Forms.{most_items, most_id, most_cases, most_target, most_price, most_stop_price, seg, line_id, rising, price_of, term_with, priced_term, prices_from, counts, counted_prices, flag_of, rules_in, merge_with, rule_in, parts_in, part_in, split_with, node_in, fork_with, dual_in, take_in}
use Rattle.order_proof.specs.Trees.{is_among}
use Rattle.order_proof.specs.Ranges.{AreRisingLines, AreRisingSegments, IsPrice, ArePrices, IsRuleInRange}
use Rattle.decimal_text.proofs.NumberLemmas.{IsNumber, up_to_within}
use Rattle.decimal_text.proofs.LineLemmas.{paired}
use Rattle.order_proof.proofs.Fronts.{said}
use Rattle.decimal_text.proofs.RangeLemmas.{from_to_again}
use Rattle.decimal_text.proofs.LineLemmas.{AreNumbers}
use Rattle.order_proof.proofs.LineLemmas.{front_line_again}
use Rattle.order_proof.proofs.FormLemmas.{node_line, IsNodeWithin, dual_line, IsDualWithin}

lines_again : (least : ℕ) (lines : List LineId) → AreRisingLines least lines → rising line_id least (line_numbers lines) ≡ Some lines
lines_again least [] are = refl
lines_again least (a ∷ rest) are =
    ap (option_and_then (λ n. option_map (λ more. line_id n ∷ more) (rising line_id (suc n) (line_numbers rest)))) (from_to_again least most_id a.0 are.0 are.1)
    ∙ ap (option_map (λ (more : List LineId). a ∷ more)) (lines_again (suc a.0) rest are.2)

segments_again : (least : ℕ) (segs : List SegId) → AreRisingSegments least segs → rising seg least (segment_numbers segs) ≡ Some segs
segments_again least [] are = refl
segments_again least (s ∷ rest) are =
    ap (option_and_then (λ n. option_map (λ more. seg n ∷ more) (rising seg (suc n) (segment_numbers rest)))) (from_to_again least most_id s.0 are.0 are.1)
    ∙ ap (option_map (λ (more : List SegId). s ∷ more)) (segments_again (suc s.0) rest are.2)

price_again : (most : ℕ) (z : ℤ) → IsPrice most z → price_of most z ≡ Some z
price_again most (pos zero) is = absurd (omega (arith, is.0))
price_again most (pos (suc n)) is = ap (option_map pos) (up_to_within most (suc n) is.1)
price_again most (negsuc n) is = ap (λ (b : Bool). cond b (Some (negsuc n)) None) (lt-ltb n most is)

pub prices_again : (most least : ℕ) (ps : List (ℕ × ℤ)) → ArePrices most least ps → prices_from most least (price_numbers ps) ≡ Some ps
prices_again most least [] are = refl
prices_again most least (p ∷ rest) are =
    let first : priced_term most least (pos p.0) p.1 ≡ Some p =
    ap (λ (o : Option ℕ). term_with o (price_of most p.1)) (from_to_again least most_id p.0 are.0 are.1) ∙ ap (term_with (Some p.0)) (price_again most p.1 are.2) in
    ap (option_and_then (λ (q : ℕ × ℤ). option_map (λ more. q ∷ more) (prices_from most (suc q.0) (price_numbers rest)))) first
    ∙ ap (option_map (λ (more : List (ℕ × ℤ)). p ∷ more)) (prices_again most (suc p.0) rest are.3)

counted_again : (most : ℕ) (ps : List (ℕ × ℤ)) → ArePrices most 0 ps → counted_prices most (pos (length ps)) (price_numbers ps) ≡ Some ps
counted_again most ps are =
    let counted : counts (length ps) (pos (length ps)) ≡ true = eq-eqb (length ps) (length ps) refl in
    ap (option_and_then (λ (qs : List (ℕ × ℤ)). cond (counts (length qs) (pos (length ps))) (Some qs) None)) (prices_again most 0 ps are)
    ∙ ap (λ (b : Bool). cond b (Some ps) None) counted

pub rules_again : (n : ℕ) → n ≤ most_items → rules_in (rules_line n).word (rules_line n).numbers ≡ Some n
rules_again n few = up_to_within most_items n few

flag_again : (b : Bool) → flag_of (pos (bit b)) ≡ Some b
flag_again true = refl
flag_again false = refl

pub rule_again : (r : Rule) → IsRuleInRange r → rule_in (rule_line r).word (rule_line r).numbers ≡ Some r
rule_again (merge_rule into from flip) range =
    ap (λ (o : Option ℕ). merge_with o (natural_within most_id (pos from.0)) (flag_of (pos (bit flip)))) (up_to_within most_id into.0 range.0)
    ∙ ap (λ (o : Option ℕ). merge_with (Some into.0) o (flag_of (pos (bit flip)))) (up_to_within most_id from.0 range.1)
    ∙ ap (merge_with (Some into.0) (Some from.0)) (flag_again flip)
rule_again (divide_rule e lines) range =
    ap (option_and_then (λ n. option_map (divide_rule (seg n)) (rising line_id 0 (line_numbers lines)))) (up_to_within most_id e.0 range.0)
    ∙ ap (option_map (divide_rule e)) (lines_again 0 lines range.1)

pub parts_again : (n : ℕ) → n ≤ most_items → parts_in (parts_line n).word (parts_line n).numbers ≡ Some n
parts_again n few = up_to_within most_items n few

pub part_again : (target : ℕ) (segs : List SegId) → target ≤ most_target → AreRisingSegments 0 segs → part_in (part_line target segs).word (part_line target segs).numbers ≡ Some (target, segs)
part_again target segs few are =
    ap (option_and_then (λ t. option_map (λ list. (t, list)) (rising seg 0 (segment_numbers segs)))) (up_to_within most_target target few)
    ∙ ap (option_map (λ (list : List SegId). (target, list))) (segments_again 0 segs are)

pub node_again : (room : ℕ) (node : NodeLine) → IsNodeWithin room node → node_in room (node_line node).word (node_line node).numbers ≡ Some node
node_again zero (nodes.Split e count) is = absurd (omega (arith, is.0))
node_again (suc room) (nodes.Split e count) is =
    ap (λ (o : Option ℕ). split_with (suc room) o (from_to 1 most_cases (pos count))) (up_to_within most_id e.0 is.1)
    ∙ ap (split_with (suc room) (Some e.0)) (from_to_again 1 most_cases count is.2 is.3)
node_again room (nodes.Close prices) is = ap (option_map nodes.Close) (counted_again most_price prices is)

pub dual_again : (room : ℕ) (node : DualLine) → IsDualWithin room node → dual_in room (dual_line node).word (dual_line node).numbers ≡ Some node
dual_again zero (duals.Fork e a b) is = absurd (omega (arith, is.0))
dual_again (suc room) (duals.Fork e a b) is =
    ap (λ (o : Option ℕ). fork_with (suc room) o (natural_within most_id (pos a.0)) (natural_within most_id (pos b.0))) (up_to_within most_id e.0 is.1)
    ∙ ap (λ (o : Option ℕ). fork_with (suc room) (Some e.0) o (natural_within most_id (pos b.0))) (up_to_within most_id a.0 is.2)
    ∙ ap (fork_with (suc room) (Some e.0) (Some a.0)) (up_to_within most_id b.0 is.3)
dual_again room (duals.Stop prices) is = ap (option_map duals.Stop) (counted_again most_stop_price prices is)

pub take_again : (taken : List LineId) (a : LineId) → a.0 ≤ most_id → is_among taken a ≡ false → take_in taken (take_line a).word (take_line a).numbers ≡ Some a
take_again taken a few free =
    ap (option_and_then (λ (n : ℕ). cond (is_among taken (line_id n)) None (Some (line_id n)))) (up_to_within most_id a.0 few)
    ∙ ap (λ (b : Bool). cond b None (Some a)) free

-- ---- the numbers of the lines

line_numbers_few : (least : ℕ) (lines : List LineId) → AreRisingLines least lines → AreNumbers (line_numbers lines)
line_numbers_few least [] are = tt
line_numbers_few least (a ∷ rest) are = (omega (arith, are.1), line_numbers_few (suc a.0) rest are.2)

segment_numbers_few : (least : ℕ) (segs : List SegId) → AreRisingSegments least segs → AreNumbers (segment_numbers segs)
segment_numbers_few least [] are = tt
segment_numbers_few least (s ∷ rest) are = (omega (arith, are.1), segment_numbers_few (suc s.0) rest are.2)

price_few : (most : ℕ) (z : ℤ) → most ≤ most_stop_price → IsPrice most z → IsNumber z
price_few most (pos n) low is = omega (arith, is.1)
price_few most (negsuc n) low is = omega (arith, is)

price_numbers_few : (most least : ℕ) (ps : List (ℕ × ℤ)) → most ≤ most_stop_price → ArePrices most least ps → AreNumbers (price_numbers ps)
price_numbers_few most least [] low are = tt
price_numbers_few most least (p ∷ rest) low are =
    (omega (arith, are.1), (price_few most p.1 low are.2, price_numbers_few most (suc p.0) rest low are.3))

-- as many prices as there are numbers of terms from the least on
prices_few : (most least : ℕ) (ps : List (ℕ × ℤ)) → ArePrices most least ps → least ≤ most_id + 1 → least + length ps ≤ most_id + 1
prices_few most least [] are low = omega arith
prices_few most least (p ∷ rest) are low = omega (arith, are.0, prices_few most (suc p.0) rest are.3 (omega (arith, are.1)))

pub prices_line_few : (most : ℕ) (word : LineWord) (ps : List (ℕ × ℤ)) → most ≤ most_stop_price → ArePrices most 0 ps → AreNumbers (prices_line word ps).numbers
prices_line_few most word ps low are = (omega (arith, prices_few most 0 ps are (omega arith)), price_numbers_few most 0 ps low are)

bit_few : (b : Bool) → bit b ≤ 1
bit_few true = omega arith
bit_few false = omega arith

pub rules_line_few : (n : ℕ) → n ≤ most_items → AreNumbers (rules_line n).numbers
rules_line_few n few = (omega arith, tt)

pub rule_line_few : (r : Rule) → IsRuleInRange r → AreNumbers (rule_line r).numbers
rule_line_few (merge_rule into from flip) range = (omega (arith, range.0), (omega (arith, range.1), (omega (arith, bit_few flip), tt)))
rule_line_few (divide_rule e lines) range = (omega (arith, range.0), line_numbers_few 0 lines range.1)

pub parts_line_few : (n : ℕ) → n ≤ most_items → AreNumbers (parts_line n).numbers
parts_line_few n few = (omega arith, tt)

pub part_line_few : (target : ℕ) (segs : List SegId) → target ≤ most_target → AreRisingSegments 0 segs → AreNumbers (part_line target segs).numbers
part_line_few target segs few are = (omega arith, segment_numbers_few 0 segs are)

pub node_line_few : (room : ℕ) (node : NodeLine) → IsNodeWithin room node → AreNumbers (node_line node).numbers
node_line_few room (nodes.Split e count) is = (omega (arith, is.1), (omega (arith, is.3), tt))
node_line_few room (nodes.Close prices) is = prices_line_few most_price LineWord.Close prices (omega arith) is

pub dual_line_few : (room : ℕ) (node : DualLine) → IsDualWithin room node → AreNumbers (dual_line node).numbers
dual_line_few room (duals.Fork e a b) is = (omega (arith, is.1), (omega (arith, is.2), (omega (arith, is.3), tt)))
dual_line_few room (duals.Stop prices) is = prices_line_few most_stop_price LineWord.Stop prices (omega arith) is

pub take_line_few : (a : LineId) → a.0 ≤ most_id → AreNumbers (take_line a).numbers
take_line_few a few = (omega arith, tt)

-- what a written line says stands at the front of its text, whatever stands behind it
pub front_again : {A : Type 0} (reading : LineWord → List ℤ → Option A) (l : Line) (a : A) (rest : List ℕ) → reading l.word l.numbers ≡ Some a → AreNumbers l.numbers → front reading (line_text l ++ rest) ≡ Some (a, rest)
unfolding front
front_again reading l a rest says few = ap (option_and_then (said reading)) (front_line_again l rest few) ∙ ap (option_map (paired rest)) says
