-- The text of a certificate in range is read as that certificate.
use Rattle.std.proofs.Common.{◌≡◌, ℕ, zero, suc, ◌+◌, ◌≤◌, ℤ, pos, List, [], ◌∷◌, ◌++◌, codes, length, Option, Some, Result, Ok, Err, refl, ap, sym, ◌∙◌, append_assoc, arith}
use Rattle.std.specs.List.{AllByRecursion}
use Rattle.std.proofs.lemmas.List.{append-nil}
use Rattle.map_base.specs.declared.ids.SegId.{SegId}
use Rattle.map_base.specs.declared.ids.LineId.{LineId}
use Rattle.octi_grid.specs.Walks.{PlainWalk, IsWalk}
use Rattle.order_values.specs.declared.rule.Rule.{Rule}
use Rattle.order_values.specs.DualTrees.{PlainDual, fork, stop, fork_depth}
use Rattle.order_proof.specs.Plain.{PlainTree, split, close, Cases, no_case, case_of, PlainPartTree, by_cases, by_pairs, PlainPart, PlainProof}
use Rattle.order_proof.specs.Trees.{depth_of, depth_of_cases, depth_of_part, count_of, most_depth}
use Rattle.order_proof.specs.Lines.{word_text, price_numbers, line_text, rules_line, rule_line, parts_line, part_line, split_line, take_line, close_line, fork_line, stop_line}
use Rattle.order_proof.specs.Forms.{most_id, most_cases, most_price, most_stop_price, rules_in, rule_in, parts_in, part_in, take_in}
use Rattle.order_proof.specs.FrontLine.{front as proof_front}
use Rattle.order_proof.specs.Text.{tree_text, cases_text, dual_text, part_tree_text, rules_text, part_text, parts_text, proof_text}
use Rattle.order_proof.specs.Ranges.{ArePrices, IsRuleInRange, IsTreeInRange, AreCasesInRange, IsDualInRange, IsPartTreeInRange, IsPartInRange}
use Rattle.order_proof.specs.Ranges as proofs
use Rattle.order_proof.proofs.FormAgain.{prices_again, prices_line_few, rules_again, rule_again, parts_again, part_again, take_again, rules_line_few, rule_line_few, parts_line_few, part_line_few, take_line_few, front_again}
use Rattle.order_proof.proofs.TextAgain.{dual_begins, tree_begins}
use Rattle.decimal_text.specs.Numbers.{natural_within, from_to}
use Rattle.decimal_text.specs.Lines.{front}
use Rattle.decimal_text.proofs.NumberLemmas.{up_to_within}
use Rattle.decimal_text.proofs.RangeLemmas.{from_to_again}
use Rattle.cert_file.specs.Plain.{PlainCertificate}
use Rattle.cert_file.specs.Forms.{most_segs, spoken_front, version_of, walk_in, order_of, cost_of}
use Rattle.cert_file.specs.Text as texts
use Rattle.cert_file.specs.Text.{version_text, counts_text, importance_text, walk_text, walks_text, order_text, orders_text, cost_text, certificate_text}
use Rattle.cert_file.specs.Ranges.{ArePairs, IsOrder, IsInRange}
use Rattle.cert_file.specs.Readers.{IsTextOf}
use Rattle.cert_file.specs.Reading.{certificate_end}
use Rattle.cert_file.proofs.Again.{walk_again}
use Rattle.cert_file.proofs.LawLemmas.{version_read, counts_read, importance_read, order_read, cost_read, apart, whole_again}
use Rattle.graph_maps.specs.FrontReadings.{all_at, cases_at, spoken_at, split_by, split_in, tree_at, fork_by, fork_in, dual_at, part_tree_at, part_at, proof_at}
use Rattle.graph_maps.specs.Readings.{importance_at, certificate_at, unless_wrong, certificate_in}

-- ---- the proof

-- a leaf of either kind, by its word and numbers
close_read : (prices : List (ℕ × ℤ)) (rest : List ℕ) → ArePrices most_price 0 prices
    → spoken_at (line_text (close_line prices) ++ rest) ≡ Some ((codes "close", pos (length prices) ∷ price_numbers prices), rest)
close_read prices rest range =
    front_again (λ w numbers. Some (word_text w, numbers)) (close_line prices) (codes "close", pos (length prices) ∷ price_numbers prices) rest refl
    (prices_line_few most_price (close_line prices).word prices (omega arith) range)

stop_read : (prices : List (ℕ × ℤ)) (rest : List ℕ) → ArePrices most_stop_price 0 prices
    → spoken_at (line_text (stop_line prices) ++ rest) ≡ Some ((codes "stop", pos (length prices) ∷ price_numbers prices), rest)
stop_read prices rest range =
    front_again (λ w numbers. Some (word_text w, numbers)) (stop_line prices) (codes "stop", pos (length prices) ∷ price_numbers prices) rest refl
    (prices_line_few most_stop_price (stop_line prices).word prices (omega arith) range)

split_read : (e : SegId) (count : ℕ) (rest : List ℕ) → e.0 ≤ most_id → count ≤ most_cases → spoken_at (line_text (split_line e count) ++ rest) ≡ Some ((codes "split", pos e.0 ∷ pos count ∷ []), rest)
split_read e count rest known few =
    front_again (λ word numbers. Some (word_text word, numbers)) (split_line e count) (codes "split", pos e.0 ∷ pos count ∷ []) rest refl (omega (arith, known), (omega (arith, few), tt))

split_said : (e : SegId) (count : ℕ) → e.0 ≤ most_id → 1 ≤ count → count ≤ most_cases → split_in (pos e.0 ∷ pos count ∷ []) ≡ Some (e, count)
split_said e count known some few =
    ap (λ (o : Option ℕ). split_by o (from_to 1 most_cases (pos count))) (up_to_within most_id e.0 known)
    ∙ ap (split_by (Some e.0)) (from_to_again 1 most_cases count some few)

mutual
  unfolding tree_at

  tree_read : (tree : PlainTree) (room : ℕ) (rest : List ℕ) → IsTreeInRange tree → depth_of tree ≤ room → tree_at room (tree_text tree ++ rest) ≡ Some (tree, rest)
  tree_read (close prices) zero rest range deep =
      rw (close_read prices rest range, prices_again most_price 0 prices range)
  tree_read (close prices) (suc room) rest range deep =
      rw (close_read prices rest range, prices_again most_price 0 prices range)
  tree_read (split e cases) zero rest range deep = absurd (omega arith)
  tree_read (split e cases) (suc room) rest range deep =
      let under = cases_text cases ++ rest in
      let grouped : tree_text (split e cases) ++ rest ≡ line_text (split_line e (count_of cases)) ++ under = append_assoc (line_text (split_line e (count_of cases))) (cases_text cases) rest in
      let line = split_read e (count_of cases) under range.0 range.2 in
      let said = split_said e (count_of cases) range.0 range.1 range.2 in
      let children : cases_at (tree_at room) (count_of cases) under ≡ Some (cases, rest) = cases_read cases room rest range.4 (omega arith) in
      rw (grouped, line, said, children)

  cases_read : (cases : Cases) (room : ℕ) (rest : List ℕ) → AreCasesInRange cases → depth_of_cases cases ≤ room → cases_at (tree_at room) (count_of cases) (cases_text cases ++ rest) ≡ Some (cases, rest)
  cases_read no_case room rest range deep = refl
  cases_read (case_of a tree more) room rest range deep =
      let behind = cases_text more ++ rest in
      let under = tree_text tree ++ behind in
      let grouped : cases_text (case_of a tree more) ++ rest ≡ line_text (take_line a) ++ under =
      append_assoc (line_text (take_line a)) (tree_text tree ++ cases_text more) rest ∙ ap (λ (bytes : List ℕ). line_text (take_line a) ++ bytes) (append_assoc (tree_text tree) (cases_text more) rest) in
      let line : proof_front (take_in []) (line_text (take_line a) ++ under) ≡ Some (a, under) =
      front_again (take_in []) (take_line a) a under (take_again [] a range.0 refl) (take_line_few a range.0) in
      let child : tree_at room under ≡ Some (tree, behind) = tree_read tree room behind range.1 (omega arith) in
      let others : cases_at (tree_at room) (count_of more) behind ≡ Some (more, rest) = cases_read more room rest range.2 (omega arith) in
      rw (grouped, line, child, others)

fork_read : (e : SegId) (a b : LineId) (rest : List ℕ) → e.0 ≤ most_id → a.0 ≤ most_id → b.0 ≤ most_id
    → spoken_at (line_text (fork_line e a b) ++ rest) ≡ Some ((codes "fork", pos e.0 ∷ pos a.0 ∷ pos b.0 ∷ []), rest)
fork_read e a b rest known first second =
    front_again (λ word numbers. Some (word_text word, numbers)) (fork_line e a b) (codes "fork", pos e.0 ∷ pos a.0 ∷ pos b.0 ∷ []) rest refl
    (omega (arith, known), (omega (arith, first), (omega (arith, second), tt)))

fork_said : (e : SegId) (a b : LineId) → e.0 ≤ most_id → a.0 ≤ most_id → b.0 ≤ most_id → fork_in (pos e.0 ∷ pos a.0 ∷ pos b.0 ∷ []) ≡ Some (e, a, b)
fork_said e a b known first second =
    ap (λ (o : Option ℕ). fork_by o (natural_within most_id (pos a.0)) (natural_within most_id (pos b.0))) (up_to_within most_id e.0 known)
    ∙ ap (λ (o : Option ℕ). fork_by (Some e.0) o (natural_within most_id (pos b.0))) (up_to_within most_id a.0 first)
    ∙ ap (fork_by (Some e.0) (Some a.0)) (up_to_within most_id b.0 second)

dual_read : (tree : PlainDual) (room : ℕ) (rest : List ℕ) → IsDualInRange tree → fork_depth tree ≤ room → dual_at room (dual_text tree ++ rest) ≡ Some (tree, rest)
unfolding dual_at
dual_read (stop prices) zero rest range deep =
    rw (stop_read prices rest range, prices_again most_stop_price 0 prices range)
dual_read (stop prices) (suc room) rest range deep =
    rw (stop_read prices rest range, prices_again most_stop_price 0 prices range)
dual_read (fork e a b first second) zero rest range deep = absurd (omega arith)
dual_read (fork e a b first second) (suc room) rest range deep =
    let behind = dual_text second ++ rest in
    let under = dual_text first ++ behind in
    let grouped : dual_text (fork e a b first second) ++ rest ≡ line_text (fork_line e a b) ++ under =
    append_assoc (line_text (fork_line e a b)) (dual_text first ++ dual_text second) rest
    ∙ ap (λ (bytes : List ℕ). line_text (fork_line e a b) ++ bytes) (append_assoc (dual_text first) (dual_text second) rest) in
    let line = fork_read e a b under range.0 range.1 range.2 in
    let said = fork_said e a b range.0 range.1 range.2 in
    let one : dual_at room under ≡ Some (first, behind) = dual_read first room behind range.3 (omega arith) in
    let two : dual_at room behind ≡ Some (second, rest) = dual_read second room rest range.4 (omega arith) in
    rw (grouped, line, said, one, two)

part_tree_read : (tree : PlainPartTree) (rest : List ℕ) → IsPartTreeInRange tree → depth_of_part tree ≤ most_depth → part_tree_at (part_tree_text tree ++ rest) ≡ Some (tree, rest)
part_tree_read (by_cases tree) rest range deep = rw (tree_begins tree rest, tree_read tree most_depth rest range deep)
part_tree_read (by_pairs tree) rest range deep = rw (dual_begins tree rest, dual_read tree most_depth rest range deep)

rules_read : (rules : List Rule) (k : ℕ) (rest : List ℕ) → AllByRecursion IsRuleInRange rules → all_at (λ (i : ℕ). proof_front rule_in) k (length rules) (rules_text rules ++ rest) ≡ Some (rules, rest)
rules_read [] k rest range = refl
rules_read (r ∷ more) k rest range =
    let behind = rules_text more ++ rest in
    let grouped : rules_text (r ∷ more) ++ rest ≡ line_text (rule_line r) ++ behind = append_assoc (line_text (rule_line r)) (rules_text more) rest in
    let line : proof_front rule_in (line_text (rule_line r) ++ behind) ≡ Some (r, behind) = front_again rule_in (rule_line r) r behind (rule_again r range.0) (rule_line_few r range.0) in
    let others : all_at (λ (i : ℕ). proof_front rule_in) (suc k) (length more) behind ≡ Some (more, rest) = rules_read more (suc k) rest range.1 in
    rw (grouped, line, others)

part_read : (part : PlainPart) (rest : List ℕ) → IsPartInRange part → part_at (part_text part ++ rest) ≡ Some (part, rest)
unfolding part_at
part_read part rest range =
    let under = part_tree_text part.tree ++ rest in
    let line = line_text (part_line part.target part.segs) in
    let grouped : part_text part ++ rest ≡ line ++ under = append_assoc line (part_tree_text part.tree) rest in
    let head : proof_front part_in (line ++ under) ≡ Some ((part.target, part.segs), under) =
    front_again part_in (part_line part.target part.segs) (part.target, part.segs) under (part_again part.target part.segs range.target range.segs) (part_line_few part.target part.segs range.target range.segs) in
    let tree : part_tree_at under ≡ Some (part.tree, rest) = part_tree_read part.tree rest range.tree range.depth in
    rw (grouped, head, tree)

parts_read : (parts : List PlainPart) (k : ℕ) (rest : List ℕ) → AllByRecursion IsPartInRange parts → all_at (λ (i : ℕ). part_at) k (length parts) (parts_text parts ++ rest) ≡ Some (parts, rest)
parts_read [] k rest range = refl
parts_read (p ∷ more) k rest range =
    let behind = parts_text more ++ rest in
    let grouped : parts_text (p ∷ more) ++ rest ≡ part_text p ++ behind = append_assoc (part_text p) (parts_text more) rest in
    let first : part_at (part_text p ++ behind) ≡ Some (p, behind) = part_read p behind range.0 in
    let others : all_at (λ (i : ℕ). part_at) (suc k) (length more) behind ≡ Some (more, rest) = parts_read more (suc k) rest range.1 in
    rw (grouped, first, others)

pub proof_read : (p : PlainProof) (rest : List ℕ) → proofs.IsInRange p → proof_at (proof_text p ++ rest) ≡ Some (p, rest)
unfolding proof_at
proof_read p rest range =
    let n = length p.rules in
    let m = length p.parts in
    let a = line_text (rules_line n) in
    let b = rules_text p.rules in
    let d = line_text (parts_line m) in
    let e = parts_text p.parts in
    let two = d ++ (e ++ rest) in
    let grouped : proof_text p ++ rest ≡ a ++ (b ++ two) =
    append_assoc a (b ++ (d ++ e)) rest ∙ ap (λ (bytes : List ℕ). a ++ bytes) (append_assoc b (d ++ e) rest ∙ ap (λ (bytes : List ℕ). b ++ bytes) (append_assoc d e rest)) in
    let rule_count : proof_front rules_in (a ++ (b ++ two)) ≡ Some (n, b ++ two) = front_again rules_in (rules_line n) n (b ++ two) (rules_again n range.few_rules) (rules_line_few n range.few_rules) in
    let rules : all_at (λ (i : ℕ). proof_front rule_in) 0 n (b ++ two) ≡ Some (p.rules, two) = rules_read p.rules 0 two range.rules in
    let part_count : proof_front parts_in two ≡ Some (m, e ++ rest) = front_again parts_in (parts_line m) m (e ++ rest) (parts_again m range.few_parts) (parts_line_few m range.few_parts) in
    let parts : all_at (λ (i : ℕ). part_at) 0 m (e ++ rest) ≡ Some (p.parts, rest) = parts_read p.parts 0 rest range.parts in
    rw (grouped, rule_count, rules, part_count, parts)

-- ---- what stands before it

importance_front : (ps : List (LineId × ℕ)) (rest : List ℕ) → ArePairs 0 ps → importance_at (texts.version_of ps) (importance_text ps ++ rest) ≡ Some (ps, rest)
importance_front [] rest are = refl
importance_front (p ∷ ps) rest are = importance_read p ps rest are

walks_read : (walks : List PlainWalk) (s : ℕ) (rest : List ℕ) → s + length walks ≤ most_segs → AllByRecursion IsWalk walks → all_at (λ (i : ℕ). front (walk_in i)) s (length walks) (walks_text s walks ++ rest) ≡ Some (walks, rest)
walks_read [] s rest few are = refl
walks_read (w ∷ more) s rest few are =
    let behind = walks_text (suc s) more ++ rest in
    let grouped : walks_text s (w ∷ more) ++ rest ≡ walk_text s w ++ behind = append_assoc (walk_text s w) (walks_text (suc s) more) rest in
    let line : front (walk_in s) (walk_text s w ++ behind) ≡ Some (w, behind) = walk_again s w behind (omega arith) are.0 in
    let others : all_at (λ (i : ℕ). front (walk_in i)) (suc s) (length more) behind ≡ Some (more, rest) = walks_read more (suc s) rest (omega arith) are.1 in
    rw (grouped, line, others)

orders_read : (orders : List (List LineId)) (s : ℕ) (rest : List ℕ) → s + length orders ≤ most_segs → AllByRecursion IsOrder orders
    → all_at (λ (i : ℕ). spoken_front (codes "order") (order_of i)) s (length orders) (orders_text s orders ++ rest) ≡ Some (orders, rest)
orders_read [] s rest few are = refl
orders_read (o ∷ more) s rest few are =
    let behind = orders_text (suc s) more ++ rest in
    let grouped : orders_text s (o ∷ more) ++ rest ≡ order_text s o ++ behind = append_assoc (order_text s o) (orders_text (suc s) more) rest in
    let line : spoken_front (codes "order") (order_of s) (order_text s o ++ behind) ≡ Some (o, behind) = order_read s o behind (omega arith) are.0 in
    let others : all_at (λ (i : ℕ). spoken_front (codes "order") (order_of i)) (suc s) (length more) behind ≡ Some (more, rest) = orders_read more (suc s) rest (omega arith) are.1 in
    rw (grouped, line, others)

certificate_read : (c : PlainCertificate) → IsInRange c → certificate_at (certificate_text c) ≡ Some (c, [])
unfolding certificate_at
certificate_read c range =
    let six = proof_text c.proof in
    let five = cost_text c.cost ++ six in
    let four = orders_text 0 c.orders ++ five in
    let three = walks_text 0 c.walks ++ four in
    let two = importance_text c.importance ++ three in
    let one = counts_text c.nodes c.segs c.lines ++ two in
    let grouped : certificate_text c ≡ version_text c.importance ++ one = apart c six in
    let version : spoken_front (codes "octimap") version_of (version_text c.importance ++ one) ≡ Some (texts.version_of c.importance, one) = version_read c.importance one in
    let counts = counts_read (record { nodes = c.nodes; segs = c.segs; lines = c.lines }) two range.nodes range.segs range.lines in
    let importance : importance_at (texts.version_of c.importance) two ≡ Some (c.importance, three) = importance_front c.importance three range.importance in
    let walks : all_at (λ (i : ℕ). front (walk_in i)) 0 c.segs three ≡ Some (c.walks, four) =
    ap (λ (k : ℕ). all_at (λ (i : ℕ). front (walk_in i)) 0 k three) (sym range.walks_each) ∙ walks_read c.walks 0 four (omega (arith, range.walks_each, range.segs)) range.walks in
    let orders : all_at (λ (i : ℕ). spoken_front (codes "order") (order_of i)) 0 c.segs four ≡ Some (c.orders, five) =
    ap (λ (k : ℕ). all_at (λ (i : ℕ). spoken_front (codes "order") (order_of i)) 0 k four) (sym range.orders_each) ∙ orders_read c.orders 0 five (omega (arith, range.orders_each, range.segs)) range.orders in
    let cost : spoken_front (codes "cost") cost_of five ≡ Some (c.cost, six) = cost_read c.cost six range.cost in
    let proof : proof_at six ≡ Some (c.proof, []) = ap proof_at (sym (append-nil six)) ∙ proof_read c.proof [] range.proof in
    rw (grouped, version, counts, importance, walks, orders, cost, proof)

-- ---- the whole

pub text_read : (c : PlainCertificate) (bytes : List ℕ) → IsTextOf c bytes → certificate_in bytes ≡ Ok c
unfolding certificate_in
text_read c bytes is = ap certificate_in is.text
    ∙ ap (λ (r : Result ℕ ℕ). unless_wrong r (certificate_at (certificate_text c))) (whole_again c is.range)
    ∙ ap (unless_wrong (Ok (length (certificate_text c)))) (certificate_read c is.range)

pub wrong_read : (bytes : List ℕ) (at : ℕ) → certificate_end bytes ≡ Err at → certificate_in bytes ≡ Err at
unfolding certificate_in
wrong_read bytes at e = ap (λ (r : Result ℕ ℕ). unless_wrong r (certificate_at bytes)) e
