-- A proof, section by section.
use Rattle.std.proofs.Common.{◌≡◌, ◌≢◌, ◌≤◌, ℕ, zero, suc, ℤ, pos, negsuc, List, [], ◌∷◌, ◌++◌, length, Some, None, Result, Ok, Err, ap, sym, ◌∙◌, append_assoc, arith}
use Rattle.std.specs.List.{AllByRecursion}
use Rattle.std.proofs.lemmas.List.{append-nil}
use Rattle.order_values.specs.declared.rule.Rule.{Rule}
use Rattle.order_values.specs.PriceLists.{AreRisingPrices}
use Rattle.order_values.specs.DualTrees.{PlainDual, fork, stop}
use Rattle.order_proof.specs.Plain.{PlainTree, split, close, Cases, no_case, case_of, PlainPartTree, by_cases, by_pairs, PlainPart, PlainProof}
use Rattle.order_proof.specs.Trees.{AreNotZero, IsTree, AreTrees, IsDualTree, IsPartTree, IsProofTree, IsProofDual, HasTrees, depth_of_part, most_depth}
use Rattle.order_proof.specs.Lines.{line_text, rules_line, parts_line}
use Rattle.order_proof.specs.FrontLine.{front}
use Rattle.order_proof.specs.Forms.{most_price, most_stop_price, rules_in, parts_in}
use Rattle.order_proof.specs.Text.{rules_text, parts_text}
use Rattle.order_proof.specs.Ranges.{IsPrice, ArePrices, IsTreeInRange, AreCasesInRange, IsDualInRange, IsPartTreeInRange, IsPartInRange, IsInRange}
use Rattle.order_proof.specs.Reading.{Due, RuleCount, PartCount, rules_due, parts_due, reading}
use Rattle.order_proof.specs.Readers.{AreRulesOf, ArePartsOf, IsProofOf}
use Rattle.order_proof.proofs.Fronts.{front_map, front_is}
use Rattle.decimal_text.proofs.Steps.{then_read}
use Rattle.order_proof.proofs.Steps.{goes_on, stops, reading_after}
use Rattle.order_proof.proofs.FormLemmas.{rules_is, parts_is, front_text}

pub rules_count_stops : (text : List ℕ) → front rules_in text ≡ None → reading (RuleCount ∷ []) text ≡ Err text
rules_count_stops text none =
    stops (λ (n : ℕ). rules_due n ++ (PartCount ∷ [])) rules_in RuleCount [] text (front_map (λ (n : ℕ). rules_due n ++ (PartCount ∷ [])) rules_in text) none

pub rules_count_goes_on : (text : List ℕ) (n : ℕ) (rest : List ℕ) → front rules_in text ≡ Some (n, rest) → reading (RuleCount ∷ []) text ≡ then_read (reading (rules_due n) rest) (reading (PartCount ∷ []))
rules_count_goes_on text n rest there =
    goes_on (λ (m : ℕ). rules_due m ++ (PartCount ∷ [])) rules_in RuleCount [] text n rest (front_map (λ (m : ℕ). rules_due m ++ (PartCount ∷ [])) rules_in text) there
    ∙ ap (λ (due : List Due). reading due rest) (append-nil (rules_due n ++ (PartCount ∷ [])))
    ∙ reading_after (rules_due n) (PartCount ∷ []) rest

-- once the rules are read, the rest of the whole is what is due behind them
pub rules_done : (text : List ℕ) (n : ℕ) (rest left : List ℕ) → front rules_in text ≡ Some (n, rest) → reading (rules_due n) rest ≡ Ok left → reading (RuleCount ∷ []) text ≡ reading (PartCount ∷ []) left
rules_done text n rest left there read = rules_count_goes_on text n rest there ∙ ap (λ (r : Result (List ℕ) (List ℕ)). then_read r (reading (PartCount ∷ []))) read

pub parts_count_stops : (text : List ℕ) → front parts_in text ≡ None → reading (PartCount ∷ []) text ≡ Err text
parts_count_stops text none = stops parts_due parts_in PartCount [] text (front_map parts_due parts_in text) none

pub parts_count_goes_on : (text : List ℕ) (n : ℕ) (rest : List ℕ) → front parts_in text ≡ Some (n, rest) → reading (PartCount ∷ []) text ≡ reading (parts_due n) rest
parts_count_goes_on text n rest there =
    goes_on parts_due parts_in PartCount [] text n rest (front_map parts_due parts_in text) there ∙ ap (λ (due : List Due). reading due rest) (append-nil (parts_due n))

pub proof_read : (text : List ℕ) (n : ℕ) (one : List ℕ) (rules : List Rule) (two : List ℕ) (m : ℕ) (three : List ℕ) (parts : List PlainPart) (rest : List ℕ)
    → front rules_in text ≡ Some (n, one) → AreRulesOf n rules one two → front parts_in two ≡ Some (m, three) → ArePartsOf m parts three rest → IsProofOf (record { rules = rules; parts = parts }) text rest
proof_read text n one rules two m three parts rest first are second parts_are =
    let few_rules = let said = front_is rules_in text n one first in (rules_is said.line n said.says).1 in
    let few_parts = let said = front_is parts_in two m three second in (parts_is said.line m said.says).1 in
    let line = front_text rules_in text n one (rules_line n) (λ l e. (rules_is l n e).0) first in
    let parts_head = front_text parts_in two m three (parts_line m) (λ l e. (parts_is l m e).0) second in
    let a = line_text (rules_line (length rules)) in
    let b = rules_text rules in
    let d = line_text (parts_line (length parts)) in
    let e = parts_text parts in
    record {
      range = record {
        few_rules = omega (arith, few_rules, are.counted);
        rules = are.range;
        few_parts = omega (arith, few_parts, parts_are.counted);
        parts = parts_are.range;
      };
      front =
          line ∙ ap (λ (k : ℕ). line_text (rules_line k) ++ one) (sym are.counted)
          ∙ ap (λ (bytes : List ℕ). a ++ bytes) (are.front
          ∙ ap (λ (bytes : List ℕ). b ++ bytes) (parts_head ∙ ap (λ (k : ℕ). line_text (parts_line k) ++ three) (sym parts_are.counted) ∙ ap (λ (bytes : List ℕ). d ++ bytes) parts_are.front ∙ sym (append_assoc d e rest))
          ∙ sym (append_assoc b (d ++ e) rest))
          ∙ sym (append_assoc a (b ++ (d ++ e)) rest);
    }

-- ---- what the type of proofs keeps

rising_prices : (most least : ℕ) (ps : List (ℕ × ℤ)) → ArePrices most least ps → AreRisingPrices ps
rising_prices most least [] are = tt
rising_prices most least (p ∷ []) are = tt
rising_prices most least (p ∷ q ∷ rest) are = (omega (arith, are.3.0), rising_prices most (suc p.0) (q ∷ rest) are.3)

not_zero : (most : ℕ) (z : ℤ) → IsPrice most z → z ≢ pos 0
not_zero most (pos zero) is e = omega (arith, is.0)
not_zero most (pos (suc n)) is e = cc
not_zero most (negsuc n) is e = cc

prices_not_zero : (most least : ℕ) (ps : List (ℕ × ℤ)) → ArePrices most least ps → AreNotZero ps
prices_not_zero most least [] are = tt
prices_not_zero most least (p ∷ rest) are = (not_zero most p.1 are.2, prices_not_zero most (suc p.0) rest are.3)

mutual
  pub tree_kept : (tree : PlainTree) → IsTreeInRange tree → IsTree tree
  tree_kept (split seg cases) are = (omega (arith, are.1), are.3, cases_kept cases are.4)
  tree_kept (close prices) are = (rising_prices most_price 0 prices are, prices_not_zero most_price 0 prices are)

  cases_kept : (cases : Cases) → AreCasesInRange cases → AreTrees cases
  cases_kept no_case are = tt
  cases_kept (case_of a tree rest) are = (tree_kept tree are.1, cases_kept rest are.2)

dual_kept : (tree : PlainDual) → IsDualInRange tree → IsDualTree tree
dual_kept (fork seg a b first second) are = (dual_kept first are.3, dual_kept second are.4)
dual_kept (stop prices) are = (rising_prices most_stop_price 0 prices are, prices_not_zero most_stop_price 0 prices are)

part_tree_kept : (tree : PlainPartTree) → IsPartTreeInRange tree → depth_of_part tree ≤ most_depth → IsPartTree tree
part_tree_kept (by_cases tree) are deep = record { is_tree = tree_kept tree are; depth = deep }
part_tree_kept (by_pairs tree) are deep = record { is_tree = dual_kept tree are; depth = deep }

parts_kept : (parts : List PlainPart) → AllByRecursion IsPartInRange parts → AllByRecursion (λ (part : PlainPart). IsPartTree part.tree) parts
parts_kept [] are = tt
parts_kept (p ∷ rest) are = (part_tree_kept p.tree are.0.tree are.0.depth, parts_kept rest are.1)

pub trees_kept : (p : PlainProof) → IsInRange p → HasTrees p
trees_kept p range = parts_kept p.parts range.parts
