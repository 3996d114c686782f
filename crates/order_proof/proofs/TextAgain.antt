-- What is written of a proof in range is read again.
use Rattle.std.proofs.Common.{◌≡◌, ℕ, suc, true, false, ◌-◌, ◌≤◌, List, [], ◌∷◌, ◌++◌, length, Some, Result, Ok, Err, refl, ap, subst, sym, ◌∙◌, append_assoc, length-append, arith}
use Rattle.std.specs.List.{AllByRecursion}
use Rattle.std.proofs.lemmas.List.{append-nil}
use Rattle.map_base.specs.declared.ids.LineId.{LineId}
use Rattle.order_values.specs.declared.rule.Rule.{Rule}
use Rattle.order_values.specs.DualTrees.{PlainDual, fork, stop, fork_depth}
use Rattle.order_proof.specs.declared.node_line.NodeLine.TheVariants as nodes
use Rattle.order_proof.specs.declared.dual_line.DualLine.TheVariants as duals
use Rattle.order_proof.specs.Plain.{PlainTree, split, close, Cases, no_case, case_of, PlainPartTree, by_cases, by_pairs, PlainPart, PlainProof}
use Rattle.order_proof.specs.Trees.{depth_of, depth_of_cases, depth_of_part, count_of, lines_of, AreDistinct, most_depth}
use Rattle.order_proof.specs.Lines.{line_text, rules_line, rule_line, parts_line, part_line, split_line, take_line, close_line, fork_line, stop_line}
use Rattle.order_proof.specs.FrontLine.{front, begins_dual}
use Rattle.order_proof.specs.Forms.{rules_in, rule_in, parts_in, part_in, node_in, dual_in, take_in}
use Rattle.order_proof.specs.Text.{tree_text, cases_text, dual_text, part_tree_text, rules_text, part_text, parts_text, proof_text}
use Rattle.order_proof.specs.Ranges.{IsRuleInRange, IsTreeInRange, AreCasesInRange, IsDualInRange, IsPartTreeInRange, IsPartInRange, IsInRange}
use Rattle.order_proof.specs.Reading.{Due, RuleCount, ARule, APartTree, ATree, ADual, rules_due, parts_due, cases_due, place_of, reading, proof_end}
use Rattle.order_proof.proofs.Fronts.{front_map}
use Rattle.decimal_text.proofs.Steps.{then_read}
use Rattle.order_proof.proofs.Steps.{goes_on, reading_nothing}
use Rattle.order_proof.proofs.Children.{distinct_middle}
use Rattle.order_proof.proofs.FormLemmas.{IsNodeWithin, IsDualWithin}
use Rattle.order_proof.proofs.ReadTrees.{node_goes_on, close_read, take_step}
use Rattle.order_proof.proofs.ReadDuals.{stop_read, fork_goes_on, dual_due_here, tree_due_here}
use Rattle.order_proof.proofs.ReadParts.{head_goes_on, part_then}
use Rattle.order_proof.proofs.ReadProofs.{rules_done, parts_count_goes_on}
use Rattle.order_proof.proofs.FormAgain.{rules_again, rule_again, parts_again, part_again, node_again, dual_again, take_again, rules_line_few, rule_line_few, parts_line_few, part_line_few, node_line_few, dual_line_few, take_line_few, front_again}

mutual
  pub tree_again : (tree : PlainTree) (room : ℕ) (rest : List ℕ) → IsTreeInRange tree → depth_of tree ≤ room → reading (ATree room ∷ []) (tree_text tree ++ rest) ≡ Ok rest
  tree_again (close prices) room rest range deep =
      close_read room (line_text (close_line prices) ++ rest) prices rest (front_again (node_in room) (close_line prices) (nodes.Close prices) rest (node_again room (nodes.Close prices) range) (node_line_few room (nodes.Close prices) range))
  tree_again (split e cases) room rest range deep =
      let node = nodes.Split e (count_of cases) in
      let behind = cases_text cases ++ rest in
      let within : IsNodeWithin room node = (omega arith, range.0, range.1, range.2) in
      ap (reading (ATree room ∷ [])) (append_assoc (line_text (split_line e (count_of cases))) (cases_text cases) rest)
      ∙ node_goes_on room (line_text (split_line e (count_of cases)) ++ behind) node behind (front_again (node_in room) (split_line e (count_of cases)) node behind (node_again room node within) (node_line_few room node within))
      ∙ cases_again cases (room - 1) [] rest range.4 range.3 (omega arith)

  pub cases_again : (cases : Cases) (room : ℕ) (taken : List LineId) (rest : List ℕ) → AreCasesInRange cases → AreDistinct (taken ++ lines_of cases) → depth_of_cases cases ≤ room
      → reading (cases_due (count_of cases) taken room) (cases_text cases ++ rest) ≡ Ok rest
  cases_again no_case room taken rest range distinct deep = reading_nothing rest
  cases_again (case_of a tree more) room taken rest range distinct deep =
      let behind = tree_text tree ++ (cases_text more ++ rest) in
      let grouped : cases_text (case_of a tree more) ++ rest ≡ line_text (take_line a) ++ behind =
      append_assoc (line_text (take_line a)) (tree_text tree ++ cases_text more) rest ∙ ap (λ (bytes : List ℕ). line_text (take_line a) ++ bytes) (append_assoc (tree_text tree) (cases_text more) rest) in
      let there : front (take_in taken) (line_text (take_line a) ++ behind) ≡ Some (a, behind) =
      front_again (take_in taken) (take_line a) a behind (take_again taken a range.0 (distinct_middle taken a (lines_of more) distinct)) (take_line_few a range.0) in
      ap (reading (cases_due (suc (count_of more)) taken room)) grouped
      ∙ take_step room (count_of more) taken (line_text (take_line a) ++ behind) a behind there
      ∙ ap (λ (r : Result (List ℕ) (List ℕ)). then_read r (reading (cases_due (count_of more) (taken ++ a ∷ []) room))) (tree_again tree room (cases_text more ++ rest) range.1 (omega arith))
      ∙ cases_again more room (taken ++ a ∷ []) rest range.2 (subst AreDistinct (sym (append_assoc taken (a ∷ []) (lines_of more))) distinct) (omega arith)

dual_again_text : (tree : PlainDual) (room : ℕ) (rest : List ℕ) → IsDualInRange tree → fork_depth tree ≤ room → reading (ADual room ∷ []) (dual_text tree ++ rest) ≡ Ok rest
dual_again_text (stop prices) room rest range deep =
    stop_read room (line_text (stop_line prices) ++ rest) prices rest
    (front_again (dual_in room) (stop_line prices) (duals.Stop prices) rest (dual_again room (duals.Stop prices) range) (dual_line_few room (duals.Stop prices) range))
dual_again_text (fork e a b first second) room rest range deep =
    let node = duals.Fork e a b in
    let line = line_text (fork_line e a b) in
    let behind = dual_text first ++ (dual_text second ++ rest) in
    let within : IsDualWithin room node = (omega arith, range.0, range.1, range.2) in
    let grouped : dual_text (fork e a b first second) ++ rest ≡ line ++ behind =
    append_assoc line (dual_text first ++ dual_text second) rest ∙ ap (λ (bytes : List ℕ). line ++ bytes) (append_assoc (dual_text first) (dual_text second) rest) in
    ap (reading (ADual room ∷ [])) grouped
    ∙ fork_goes_on room (line ++ behind) e a b behind (dual_text second ++ rest)
    (front_again (dual_in room) (fork_line e a b) node behind (dual_again room node within) (dual_line_few room node within))
    (dual_again_text first (room - 1) (dual_text second ++ rest) range.3 (omega arith))
    ∙ dual_again_text second (room - 1) rest range.4 (omega arith)

-- a tree of either kind begins as its kind does
pub dual_begins : (tree : PlainDual) (rest : List ℕ) → begins_dual (dual_text tree ++ rest) ≡ true
dual_begins (fork e a b first second) rest = refl
dual_begins (stop prices) rest = refl

pub tree_begins : (tree : PlainTree) (rest : List ℕ) → begins_dual (tree_text tree ++ rest) ≡ false
tree_begins (split e cases) rest = refl
tree_begins (close prices) rest = refl

part_tree_again : (tree : PlainPartTree) (rest : List ℕ) → IsPartTreeInRange tree → depth_of_part tree ≤ most_depth → reading (APartTree ∷ []) (part_tree_text tree ++ rest) ≡ Ok rest
part_tree_again (by_cases tree) rest range deep = tree_due_here (tree_text tree ++ rest) (tree_begins tree rest) ∙ tree_again tree most_depth rest range deep
part_tree_again (by_pairs tree) rest range deep = dual_due_here (dual_text tree ++ rest) (dual_begins tree rest) ∙ dual_again_text tree most_depth rest range deep

rules_text_again : (rules : List Rule) (rest : List ℕ) → AllByRecursion IsRuleInRange rules → reading (rules_due (length rules)) (rules_text rules ++ rest) ≡ Ok rest
rules_text_again [] rest range = reading_nothing rest
rules_text_again (r ∷ more) rest range =
    let behind = rules_text more ++ rest in
    let due = rules_due (length more) in
    ap (reading (rules_due (suc (length more)))) (append_assoc (line_text (rule_line r)) (rules_text more) rest)
    ∙ goes_on (λ (_ : Rule). due) rule_in (ARule (length more)) [] (line_text (rule_line r) ++ behind) r behind (front_map (λ (_ : Rule). due) rule_in (line_text (rule_line r) ++ behind)) (front_again rule_in (rule_line r) r behind (rule_again r range.0) (rule_line_few r range.0))
    ∙ ap (λ (d : List Due). reading d behind) (append-nil due)
    ∙ rules_text_again more rest range.1

part_text_again : (part : PlainPart) (rest : List ℕ) → IsPartInRange part → reading (parts_due 1) (part_text part ++ rest) ≡ Ok rest
part_text_again part rest range =
    let line = line_text (part_line part.target part.segs) in
    let behind = part_tree_text part.tree ++ rest in
    ap (reading (parts_due 1)) (append_assoc line (part_tree_text part.tree) rest)
    ∙ head_goes_on 0 (line ++ behind) (part.target, part.segs) behind (front_again part_in (part_line part.target part.segs) (part.target, part.segs) behind (part_again part.target part.segs range.target range.segs) (part_line_few part.target part.segs range.target range.segs))
    ∙ part_tree_again part.tree rest range.tree range.depth

parts_text_again : (parts : List PlainPart) (rest : List ℕ) → AllByRecursion IsPartInRange parts → reading (parts_due (length parts)) (parts_text parts ++ rest) ≡ Ok rest
parts_text_again [] rest range = reading_nothing rest
parts_text_again (p ∷ more) rest range =
    let behind = parts_text more ++ rest in
    ap (reading (parts_due (suc (length more)))) (append_assoc (part_text p) (parts_text more) rest)
    ∙ part_then (length more) (part_text p ++ behind)
    ∙ ap (λ (r : Result (List ℕ) (List ℕ)). then_read r (reading (parts_due (length more)))) (part_text_again p behind range.0)
    ∙ parts_text_again more rest range.1

proof_again : (p : PlainProof) (rest : List ℕ) → IsInRange p → reading (RuleCount ∷ []) (proof_text p ++ rest) ≡ Ok rest
proof_again p rest range =
    let n = length p.rules in
    let m = length p.parts in
    let a = line_text (rules_line n) in
    let b = rules_text p.rules in
    let d = line_text (parts_line m) in
    let e = parts_text p.parts in
    let two = d ++ (e ++ rest) in
    let grouped : proof_text p ++ rest ≡ a ++ (b ++ two) =
    append_assoc a (b ++ (d ++ e)) rest ∙ ap (λ (bytes : List ℕ). a ++ bytes) (append_assoc b (d ++ e) rest ∙ ap (λ (bytes : List ℕ). b ++ bytes) (append_assoc d e rest)) in
    let first : front rules_in (a ++ (b ++ two)) ≡ Some (n, b ++ two) = front_again rules_in (rules_line n) n (b ++ two) (rules_again n range.few_rules) (rules_line_few n range.few_rules) in
    let second : front parts_in two ≡ Some (m, e ++ rest) = front_again parts_in (parts_line m) m (e ++ rest) (parts_again m range.few_parts) (parts_line_few m range.few_parts) in
    ap (reading (RuleCount ∷ [])) grouped
    ∙ rules_done (a ++ (b ++ two)) n (b ++ two) two first (rules_text_again p.rules two range.rules)
    ∙ parts_count_goes_on two m (e ++ rest) second
    ∙ parts_text_again p.parts rest range.parts

abbrev ok : ℕ → Result ℕ ℕ
ok n = Ok n

-- the text of a proof in range is read as a whole, whatever stands behind it
pub end_again : (p : PlainProof) (behind : List ℕ) → IsInRange p → proof_end (proof_text p ++ behind) ≡ Ok (length (proof_text p))
end_again p behind range =
    let used : length (proof_text p ++ behind) - length behind ≡ length (proof_text p) = omega (arith, length-append (proof_text p) behind) in
    ap (place_of (proof_text p ++ behind)) (proof_again p behind range) ∙ ap ok used

ok_no_err : (m n : ℕ) → ok m ≡ Err n → ⊥
ok_no_err m n e = cc

pub none_where_stopped : (bytes behind : List ℕ) (at : ℕ) (p : PlainProof) → proof_end bytes ≡ Err at → IsInRange p → bytes ≡ proof_text p ++ behind → ⊥
none_where_stopped bytes behind at p stopped range e = ok_no_err (length (proof_text p)) at (sym (end_again p behind range) ∙ sym (ap proof_end e) ∙ stopped)
