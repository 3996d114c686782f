-- Two proofs in range with one text are one proof.
use Rattle.std.proofs.Common.{◌≡◌, ℕ, ◌≤◌, ℤ, List, [], ◌∷◌, ◌++◌, length, Option, Some, refl, ap, sym, ◌∙◌, append_assoc, true≢false, arith}
use Rattle.std.specs.List.{AllByRecursion}
use Rattle.map_base.specs.declared.ids.SegId.{SegId}
use Rattle.map_base.specs.declared.ids.LineId.{LineId}
use Rattle.order_values.specs.declared.rule.Rule.{Rule}
use Rattle.order_proof.specs.declared.line_word.LineWord.{LineWord}
use Rattle.order_proof.specs.declared.node_line.NodeLine.{NodeLine}
use Rattle.order_values.specs.DualTrees.{PlainDual, fork, stop}
use Rattle.order_proof.specs.declared.node_line.NodeLine.TheVariants as nodes
use Rattle.order_proof.specs.declared.dual_line.DualLine.{DualLine}
use Rattle.order_proof.specs.declared.dual_line.DualLine.TheVariants as duals
use Rattle.order_proof.specs.Plain.{PlainTree, split, close, Cases, no_case, case_of, PlainPartTree, by_cases, by_pairs, PlainPart, PlainProof}
use Rattle.order_proof.specs.Trees.{count_of}
use Rattle.order_proof.specs.Lines.{line_text, rules_line, rule_line, parts_line, part_line, split_line, take_line, fork_line}
use Rattle.order_proof.specs.FrontLine.{front, begins_dual}
use Rattle.order_proof.specs.Forms.{most_id, rules_in, rule_in, parts_in, part_in, node_in, dual_in, take_in}
use Rattle.order_proof.specs.Text.{tree_text, cases_text, dual_text, part_tree_text, rules_text, part_text, parts_text, proof_text}
use Rattle.order_proof.specs.Ranges.{IsRuleInRange, IsTreeInRange, AreCasesInRange, IsDualInRange, IsPartTreeInRange, IsPartInRange, IsInRange}
use Rattle.order_proof.proofs.FormLemmas.{node_line, IsNodeWithin, dual_line, IsDualWithin}
use Rattle.order_proof.proofs.TextAgain.{dual_begins, tree_begins}
use Rattle.order_proof.proofs.FormAgain.{rules_again, rule_again, parts_again, part_again, node_again, dual_again, take_again, rules_line_few, rule_line_few, parts_line_few, part_line_few, node_line_few, dual_line_few, take_line_few, front_again}

abbrev found : {A : Type 0} → A × List ℕ → Option (A × List ℕ)
found x = Some x

found_is : {A : Type 0} (x y : A × List ℕ) → found x ≡ found y → x ≡ y
found_is x y e = cc

-- two lines of a form at the front of one text
front_same : {A : Type 0} (reading : LineWord → List ℤ → Option A) (a b : A) (x y : List ℕ) (s t : List ℕ) → front reading s ≡ Some (a, x) → front reading t ≡ Some (b, y) → s ≡ t → (a ≡ b) × (x ≡ y)
front_same {A} reading a b x y s t first second e =
    let same : (a, x) ≡ (b, y) = found_is (a, x) (b, y) (sym first ∙ ap (front reading) e ∙ second) in
    (ap (λ (p : A × List ℕ). p.0) same, ap (λ (p : A × List ℕ). p.1) same)

node_same : (room : ℕ) (m n : NodeLine) (a b : List ℕ) → IsNodeWithin room m → IsNodeWithin room n → line_text (node_line m) ++ a ≡ line_text (node_line n) ++ b → (m ≡ n) × (a ≡ b)
node_same room m n a b first second e =
    front_same (node_in room) m n a b (line_text (node_line m) ++ a) (line_text (node_line n) ++ b)
    (front_again (node_in room) (node_line m) m a (node_again room m first) (node_line_few room m first))
    (front_again (node_in room) (node_line n) n b (node_again room n second) (node_line_few room n second)) e

take_same : (l m : LineId) (a b : List ℕ) → l.0 ≤ most_id → m.0 ≤ most_id → line_text (take_line l) ++ a ≡ line_text (take_line m) ++ b → (l ≡ m) × (a ≡ b)
take_same l m a b first second e =
    front_same (take_in []) l m a b (line_text (take_line l) ++ a) (line_text (take_line m) ++ b)
    (front_again (take_in []) (take_line l) l a (take_again [] l first refl) (take_line_few l first))
    (front_again (take_in []) (take_line m) m b (take_again [] m second refl) (take_line_few m second)) e

split_parts : (e f : SegId) (m n : ℕ) → nodes.Split e m ≡ nodes.Split f n → (e ≡ f) × (m ≡ n)
split_parts e f m n same = (cc, cc)

close_parts : (ps qs : List (ℕ × ℤ)) → nodes.Close ps ≡ nodes.Close qs → ps ≡ qs
close_parts ps qs same = cc

apart : (e : SegId) (n : ℕ) (ps : List (ℕ × ℤ)) → nodes.Split e n ≡ nodes.Close ps → ⊥
apart e n ps same = cc

mutual
  tree_same : (t u : PlainTree) (a b : List ℕ) → IsTreeInRange t → IsTreeInRange u → tree_text t ++ a ≡ tree_text u ++ b → (t ≡ u) × (a ≡ b)
  tree_same (close ps) (close qs) a b first second e =
      let same = node_same 1 (nodes.Close ps) (nodes.Close qs) a b first second e in
      (ap close (close_parts ps qs same.0), same.1)
  tree_same (close ps) (split f ds) a b first second e =
      let within : IsNodeWithin 1 (nodes.Split f (count_of ds)) = (omega arith, second.0, second.1, second.2) in
      let same = node_same 1 (nodes.Close ps) (nodes.Split f (count_of ds)) a (cases_text ds ++ b) first within (e ∙ append_assoc (line_text (split_line f (count_of ds))) (cases_text ds) b) in
      absurd (apart f (count_of ds) ps (sym same.0))
  tree_same (split d cs) (close qs) a b first second e =
      let within : IsNodeWithin 1 (nodes.Split d (count_of cs)) = (omega arith, first.0, first.1, first.2) in
      let same = node_same 1 (nodes.Split d (count_of cs)) (nodes.Close qs) (cases_text cs ++ a) b within second (sym (append_assoc (line_text (split_line d (count_of cs))) (cases_text cs) a) ∙ e) in
      absurd (apart d (count_of cs) qs same.0)
  tree_same (split d cs) (split f ds) a b first second e =
      let one : IsNodeWithin 1 (nodes.Split d (count_of cs)) = (omega arith, first.0, first.1, first.2) in
      let two : IsNodeWithin 1 (nodes.Split f (count_of ds)) = (omega arith, second.0, second.1, second.2) in
      let same = node_same 1 (nodes.Split d (count_of cs)) (nodes.Split f (count_of ds)) (cases_text cs ++ a) (cases_text ds ++ b) one two
      (sym (append_assoc (line_text (split_line d (count_of cs))) (cases_text cs) a) ∙ e ∙ append_assoc (line_text (split_line f (count_of ds))) (cases_text ds) b) in
      let parts = split_parts d f (count_of cs) (count_of ds) same.0 in
      let later = cases_same cs ds a b first.4 second.4 parts.1 same.1 in
      (ap (λ (g : SegId). split g cs) parts.0 ∙ ap (split f) later.0, later.1)

  cases_same : (cs ds : Cases) (a b : List ℕ) → AreCasesInRange cs → AreCasesInRange ds → count_of cs ≡ count_of ds → cases_text cs ++ a ≡ cases_text ds ++ b → (cs ≡ ds) × (a ≡ b)
  cases_same no_case no_case a b first second count e = (refl, e)
  cases_same no_case (case_of m u ds) a b first second count e = absurd (omega arith)
  cases_same (case_of l t cs) no_case a b first second count e = absurd (omega arith)
  cases_same (case_of l t cs) (case_of m u ds) a b first second count e =
      let x = tree_text t ++ (cases_text cs ++ a) in
      let y = tree_text u ++ (cases_text ds ++ b) in
      let left : cases_text (case_of l t cs) ++ a ≡ line_text (take_line l) ++ x = append_assoc (line_text (take_line l)) (tree_text t ++ cases_text cs) a ∙ ap (λ (bytes : List ℕ). line_text (take_line l) ++ bytes) (append_assoc (tree_text t) (cases_text cs) a) in
      let right : cases_text (case_of m u ds) ++ b ≡ line_text (take_line m) ++ y = append_assoc (line_text (take_line m)) (tree_text u ++ cases_text ds) b ∙ ap (λ (bytes : List ℕ). line_text (take_line m) ++ bytes) (append_assoc (tree_text u) (cases_text ds) b) in
      let head = take_same l m x y first.0 second.0 (sym left ∙ e ∙ right) in
      let tree = tree_same t u (cases_text cs ++ a) (cases_text ds ++ b) first.1 second.1 head.1 in
      let more : count_of cs ≡ count_of ds = omega arith in
      let later = cases_same cs ds a b first.2 second.2 more tree.1 in
      (ap (λ (k : LineId). case_of k t cs) head.0 ∙ ap (λ (v : PlainTree). case_of m v cs) tree.0 ∙ ap (case_of m u) later.0, later.1)

dual_line_same : (m n : DualLine) (a b : List ℕ) → IsDualWithin 1 m → IsDualWithin 1 n → line_text (dual_line m) ++ a ≡ line_text (dual_line n) ++ b → (m ≡ n) × (a ≡ b)
dual_line_same m n a b first second e =
    front_same (dual_in 1) m n a b (line_text (dual_line m) ++ a) (line_text (dual_line n) ++ b)
    (front_again (dual_in 1) (dual_line m) m a (dual_again 1 m first) (dual_line_few 1 m first))
    (front_again (dual_in 1) (dual_line n) n b (dual_again 1 n second) (dual_line_few 1 n second)) e

fork_parts : (s t : SegId) (a b c d : LineId) → duals.Fork s a b ≡ duals.Fork t c d → (s ≡ t) × (a ≡ c) × (b ≡ d)
fork_parts s t a b c d same = (cc, cc, cc)

stop_parts : (ps qs : List (ℕ × ℤ)) → duals.Stop ps ≡ duals.Stop qs → ps ≡ qs
stop_parts ps qs same = cc

stop_no_fork : (s : SegId) (a b : LineId) (ps : List (ℕ × ℤ)) → duals.Fork s a b ≡ duals.Stop ps → ⊥
stop_no_fork s a b ps same = cc

fork_grouped : (s : SegId) (a b : LineId) (t u : PlainDual) (x : List ℕ)
    → dual_text (fork s a b t u) ++ x ≡ line_text (fork_line s a b) ++ (dual_text t ++ (dual_text u ++ x))
fork_grouped s a b t u x =
    append_assoc (line_text (fork_line s a b)) (dual_text t ++ dual_text u) x
    ∙ ap (λ (bytes : List ℕ). line_text (fork_line s a b) ++ bytes) (append_assoc (dual_text t) (dual_text u) x)

dual_same : (t u : PlainDual) (x y : List ℕ) → IsDualInRange t → IsDualInRange u → dual_text t ++ x ≡ dual_text u ++ y → (t ≡ u) × (x ≡ y)
dual_same (stop ps) (stop qs) x y first second e =
    let same = dual_line_same (duals.Stop ps) (duals.Stop qs) x y first second e in
    (ap stop (stop_parts ps qs same.0), same.1)
dual_same (stop ps) (fork s a b t u) x y first second e =
    let within : IsDualWithin 1 (duals.Fork s a b) = (omega arith, second.0, second.1, second.2) in
    let same = dual_line_same (duals.Stop ps) (duals.Fork s a b) x (dual_text t ++ (dual_text u ++ y)) first within (e ∙ fork_grouped s a b t u y) in
    absurd (stop_no_fork s a b ps (sym same.0))
dual_same (fork s a b t u) (stop qs) x y first second e =
    let within : IsDualWithin 1 (duals.Fork s a b) = (omega arith, first.0, first.1, first.2) in
    let same = dual_line_same (duals.Fork s a b) (duals.Stop qs) (dual_text t ++ (dual_text u ++ x)) y within second (sym (fork_grouped s a b t u x) ∙ e) in
    absurd (stop_no_fork s a b qs same.0)
dual_same (fork s a b t u) (fork r c d v w) x y first second e =
    let one : IsDualWithin 1 (duals.Fork s a b) = (omega arith, first.0, first.1, first.2) in
    let two : IsDualWithin 1 (duals.Fork r c d) = (omega arith, second.0, second.1, second.2) in
    let same = dual_line_same (duals.Fork s a b) (duals.Fork r c d) (dual_text t ++ (dual_text u ++ x)) (dual_text v ++ (dual_text w ++ y)) one two
    (sym (fork_grouped s a b t u x) ∙ e ∙ fork_grouped r c d v w y) in
    let parts = fork_parts s r a b c d same.0 in
    let left = dual_same t v (dual_text u ++ x) (dual_text w ++ y) first.3 second.3 same.1 in
    let right = dual_same u w x y first.4 second.4 left.1 in (
      ap (λ (q : SegId). fork q a b t u) parts.0 ∙ ap (λ (q : LineId). fork r q b t u) parts.1 ∙ ap (λ (q : LineId). fork r c q t u) parts.2
          ∙ ap (λ (q : PlainDual). fork r c d q u) left.0
          ∙ ap (λ (q : PlainDual). fork r c d v q) right.0,
      right.1,
    )

-- a tree of the one kind has no text of the other
kinds_apart : (t : PlainTree) (u : PlainDual) (a b : List ℕ) → tree_text t ++ a ≡ dual_text u ++ b → ⊥
kinds_apart t u a b e = true≢false (sym (dual_begins u b) ∙ sym (ap begins_dual e) ∙ tree_begins t a)

part_tree_same : (t u : PlainPartTree) (a b : List ℕ) → IsPartTreeInRange t → IsPartTreeInRange u → part_tree_text t ++ a ≡ part_tree_text u ++ b → (t ≡ u) × (a ≡ b)
part_tree_same (by_cases t) (by_cases u) a b first second e = let same = tree_same t u a b first second e in (ap by_cases same.0, same.1)
part_tree_same (by_cases t) (by_pairs u) a b first second e = absurd (kinds_apart t u a b e)
part_tree_same (by_pairs t) (by_cases u) a b first second e = absurd (kinds_apart u t b a (sym e))
part_tree_same (by_pairs t) (by_pairs u) a b first second e = let same = dual_same t u a b first second e in (ap by_pairs same.0, same.1)

rules_same : (rs qs : List Rule) (a b : List ℕ) → AllByRecursion IsRuleInRange rs → AllByRecursion IsRuleInRange qs → length rs ≡ length qs → rules_text rs ++ a ≡ rules_text qs ++ b → (rs ≡ qs) × (a ≡ b)
rules_same [] [] a b first second count e = (refl, e)
rules_same [] (q ∷ qs) a b first second count e = absurd (omega arith)
rules_same (r ∷ rs) [] a b first second count e = absurd (omega arith)
rules_same (r ∷ rs) (q ∷ qs) a b first second count e =
    let x = rules_text rs ++ a in
    let y = rules_text qs ++ b in
    let head = front_same rule_in r q x y (line_text (rule_line r) ++ x) (line_text (rule_line q) ++ y)
    (front_again rule_in (rule_line r) r x (rule_again r first.0) (rule_line_few r first.0))
    (front_again rule_in (rule_line q) q y (rule_again q second.0) (rule_line_few q second.0))
    (sym (append_assoc (line_text (rule_line r)) (rules_text rs) a) ∙ e ∙ append_assoc (line_text (rule_line q)) (rules_text qs) b) in
    let later = rules_same rs qs a b first.1 second.1 (omega arith) head.1 in
    (ap (λ (s : Rule). s ∷ rs) head.0 ∙ ap (λ (ss : List Rule). q ∷ ss) later.0, later.1)

part_same : (p q : PlainPart) (a b : List ℕ) → IsPartInRange p → IsPartInRange q → part_text p ++ a ≡ part_text q ++ b → (p ≡ q) × (a ≡ b)
part_same p q a b first second e =
    let x = part_tree_text p.tree ++ a in
    let y = part_tree_text q.tree ++ b in
    let head = front_same part_in (p.target, p.segs) (q.target, q.segs) x y (line_text (part_line p.target p.segs) ++ x) (line_text (part_line q.target q.segs) ++ y)
    (front_again part_in (part_line p.target p.segs) (p.target, p.segs) x (part_again p.target p.segs first.target first.segs) (part_line_few p.target p.segs first.target first.segs))
    (front_again part_in (part_line q.target q.segs) (q.target, q.segs) y (part_again q.target q.segs second.target second.segs) (part_line_few q.target q.segs second.target second.segs))
    (sym (append_assoc (line_text (part_line p.target p.segs)) (part_tree_text p.tree) a) ∙ e ∙ append_assoc (line_text (part_line q.target q.segs)) (part_tree_text q.tree) b) in
    let tree = part_tree_same p.tree q.tree a b first.tree second.tree head.1 in
    (ap (λ (h : ℕ × List SegId). record { segs = h.1; target = h.0; tree = p.tree }) head.0 ∙ ap (λ (t : PlainPartTree). record { segs = q.segs; target = q.target; tree = t }) tree.0, tree.1)

parts_same : (ps qs : List PlainPart) (a b : List ℕ) → AllByRecursion IsPartInRange ps → AllByRecursion IsPartInRange qs → length ps ≡ length qs → parts_text ps ++ a ≡ parts_text qs ++ b → (ps ≡ qs) × (a ≡ b)
parts_same [] [] a b first second count e = (refl, e)
parts_same [] (q ∷ qs) a b first second count e = absurd (omega arith)
parts_same (p ∷ ps) [] a b first second count e = absurd (omega arith)
parts_same (p ∷ ps) (q ∷ qs) a b first second count e =
    let head = part_same p q (parts_text ps ++ a) (parts_text qs ++ b) first.0 second.0 (sym (append_assoc (part_text p) (parts_text ps) a) ∙ e ∙ append_assoc (part_text q) (parts_text qs) b) in
    let later = parts_same ps qs a b first.1 second.1 (omega arith) head.1 in
    (ap (λ (s : PlainPart). s ∷ ps) head.0 ∙ ap (λ (ss : List PlainPart). q ∷ ss) later.0, later.1)

grouped : (p : PlainProof) (a : List ℕ)
    → proof_text p ++ a ≡ line_text (rules_line (length p.rules)) ++ (rules_text p.rules ++ (line_text (parts_line (length p.parts)) ++ (parts_text p.parts ++ a)))
grouped p a =
    let one = line_text (rules_line (length p.rules)) in
    let two = rules_text p.rules in
    let three = line_text (parts_line (length p.parts)) in
    append_assoc one (two ++ (three ++ parts_text p.parts)) a
    ∙ ap (λ (bytes : List ℕ). one ++ bytes) (append_assoc two (three ++ parts_text p.parts) a ∙ ap (λ (bytes : List ℕ). two ++ bytes) (append_assoc three (parts_text p.parts) a))

-- two proofs in range at the front of one text are one proof, and what stands behind them is the same
pub proof_same : (p q : PlainProof) (a b : List ℕ) → IsInRange p → IsInRange q → proof_text p ++ a ≡ proof_text q ++ b → (p ≡ q) × (a ≡ b)
proof_same p q a b first second e =
    let pm = length p.rules in
    let qm = length q.rules in
    let pn = length p.parts in
    let qn = length q.parts in
    let px = line_text (parts_line pn) ++ (parts_text p.parts ++ a) in
    let qx = line_text (parts_line qn) ++ (parts_text q.parts ++ b) in
    let one = front_same rules_in pm qm (rules_text p.rules ++ px) (rules_text q.rules ++ qx) (line_text (rules_line pm) ++ (rules_text p.rules ++ px)) (line_text (rules_line qm) ++ (rules_text q.rules ++ qx))
    (front_again rules_in (rules_line pm) pm (rules_text p.rules ++ px) (rules_again pm first.few_rules) (rules_line_few pm first.few_rules))
    (front_again rules_in (rules_line qm) qm (rules_text q.rules ++ qx) (rules_again qm second.few_rules) (rules_line_few qm second.few_rules))
    (sym (grouped p a) ∙ e ∙ grouped q b) in
    let two = rules_same p.rules q.rules px qx first.rules second.rules one.0 one.1 in
    let three = front_same parts_in pn qn (parts_text p.parts ++ a) (parts_text q.parts ++ b) px qx
    (front_again parts_in (parts_line pn) pn (parts_text p.parts ++ a) (parts_again pn first.few_parts) (parts_line_few pn first.few_parts))
    (front_again parts_in (parts_line qn) qn (parts_text q.parts ++ b) (parts_again qn second.few_parts) (parts_line_few qn second.few_parts)) two.1 in
    let four = parts_same p.parts q.parts a b first.parts second.parts three.0 three.1 in
    (ap (λ (rs : List Rule). record { rules = rs; parts = p.parts }) two.0 ∙ ap (λ (ps : List PlainPart). record { rules = q.rules; parts = ps }) four.0, four.1)
