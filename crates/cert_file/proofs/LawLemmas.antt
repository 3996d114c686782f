-- The text of a certificate in range is read as a whole, and is that of no other.
use Rattle.std.proofs.Common.{◌≡◌, ℕ, suc, ◌+◌, ◌-◌, ◌≤◌, pos, List, [], ◌∷◌, ◌++◌, codes, length, Option, Some, Result, Ok, Err, refl, ap, sym, ◌∙◌, append_assoc, length-append, arith}
use Rattle.std.specs.List.{AllByRecursion}
use Rattle.std.proofs.lemmas.List.{append-nil}
use Rattle.std.proofs.lemmas.Option.{same_Some}
use Rattle.map_base.specs.declared.ids.LineId.{LineId}
use Rattle.octi_grid.specs.Walks.{PlainWalk, IsWalk}
use Rattle.order_proof.specs.Plain.{PlainProof}
use Rattle.order_proof.specs.Text.{proof_text}
use Rattle.order_proof.specs.Reading.{proof_end}
use Rattle.order_proof.proofs.TextAgain.{end_again}
use Rattle.order_proof.proofs.OneSpelling.{proof_same}
use Rattle.decimal_text.specs.Lines.{front}
use Rattle.decimal_text.specs.Reading.{reading}
use Rattle.decimal_text.proofs.LineLemmas.{front_map, IsWord, AreNumbers}
use Rattle.decimal_text.proofs.Steps.{goes_on, reading_nothing}
use Rattle.cert_file.specs.declared.counts.Counts.{Counts}
use Rattle.cert_file.specs.Plain.{PlainCertificate}
use Rattle.cert_file.specs.Forms.{most_id, most_nodes, most_segs, most_lines, most_cost, spoken_front, version_of, counts_of, importance_of, walk_in, order_of, cost_of, orders_in}
use Rattle.cert_file.specs.Text as texts
use Rattle.cert_file.specs.Text.{version_text, counts_text, pair_numbers, importance_text, walk_text, walks_text, line_numbers, order_text, orders_text, cost_text, head_text, certificate_text}
use Rattle.cert_file.specs.Ranges.{ArePairs, IsOrder, IsInRange}
use Rattle.cert_file.specs.Reading.{Due, AWalk, AnOrder, after, importance_due, walks_due, orders_due, head_end, certificate_end}
use Rattle.cert_file.proofs.Bodies.{importance_goes_on, importance_none}
use Rattle.cert_file.proofs.Heads.{cost_left, cost_goes_on, version_goes_on, counts_go_on}
use Rattle.cert_file.proofs.Wholes.{head_then, ends_whole}
use Rattle.cert_file.proofs.FormLemmas.{spoken_is}
use Rattle.cert_file.proofs.Again.{spoken_again, version_again, counts_again, importance_again, order_again, cost_again, walk_again}

octimap_word : IsWord (codes "octimap")
octimap_word = record { no_space = (refl, (refl, (refl, (refl, (refl, (refl, (refl, tt))))))); no_end = (refl, (refl, (refl, (refl, (refl, (refl, (refl, tt))))))) }

graph_word : IsWord (codes "graph")
graph_word = record { no_space = (refl, (refl, (refl, (refl, (refl, tt))))); no_end = (refl, (refl, (refl, (refl, (refl, tt))))) }

importance_word : IsWord (codes "importance")
importance_word = record {
  no_space = (refl, (refl, (refl, (refl, (refl, (refl, (refl, (refl, (refl, (refl, tt))))))))));
  no_end = (refl, (refl, (refl, (refl, (refl, (refl, (refl, (refl, (refl, (refl, tt))))))))));
}

order_word : IsWord (codes "order")
order_word = record { no_space = (refl, (refl, (refl, (refl, (refl, tt))))); no_end = (refl, (refl, (refl, (refl, (refl, tt))))) }

cost_word : IsWord (codes "cost")
cost_word = record { no_space = (refl, (refl, (refl, (refl, tt)))); no_end = (refl, (refl, (refl, (refl, tt)))) }

-- ---- each line at the front of its text

pub version_read : (ps : List (LineId × ℕ)) (rest : List ℕ) → spoken_front (codes "octimap") version_of (version_text ps ++ rest) ≡ Some (texts.version_of ps, rest)
version_read [] rest = spoken_again (codes "octimap") version_of (pos 1 ∷ []) 1 rest octimap_word (omega arith, tt) (version_again 1 (omega arith) (omega arith))
version_read (p ∷ ps) rest = spoken_again (codes "octimap") version_of (pos 2 ∷ []) 2 rest octimap_word (omega arith, tt) (version_again 2 (omega arith) (omega arith))

pub counts_read : (n : Counts) (rest : List ℕ) → n.nodes ≤ most_nodes → n.segs ≤ most_segs → n.lines ≤ most_lines → spoken_front (codes "graph") counts_of (counts_text n.nodes n.segs n.lines ++ rest) ≡ Some (n, rest)
counts_read n rest a b c =
    spoken_again (codes "graph") counts_of (pos n.nodes ∷ pos n.segs ∷ pos n.lines ∷ []) n rest graph_word (omega (arith, a), (omega (arith, b), (omega (arith, c), tt))) (counts_again n a b c)

pair_numbers_few : (least : ℕ) (ps : List (LineId × ℕ)) → ArePairs least ps → AreNumbers (pair_numbers ps)
pair_numbers_few least [] are = tt
pair_numbers_few least (p ∷ rest) are = (omega (arith, are.1), (omega (arith, are.3), pair_numbers_few (suc p.0.0) rest are.4))

pub importance_read : (p : LineId × ℕ) (ps : List (LineId × ℕ)) (rest : List ℕ) → ArePairs 0 (p ∷ ps) → spoken_front (codes "importance") importance_of (importance_text (p ∷ ps) ++ rest) ≡ Some (p ∷ ps, rest)
importance_read p ps rest are =
    spoken_again (codes "importance") importance_of (pair_numbers (p ∷ ps)) (p ∷ ps) rest importance_word (pair_numbers_few 0 (p ∷ ps) are) (importance_again p ps are)

line_numbers_few : (ls : List LineId) → AllByRecursion (λ (l : LineId). l.0 ≤ most_id) ls → AreNumbers (line_numbers ls)
line_numbers_few [] few = tt
line_numbers_few (l ∷ ls) few = (omega (arith, few.0), line_numbers_few ls few.1)

pub order_read : (s : ℕ) (ls : List LineId) (rest : List ℕ) → s ≤ most_segs → IsOrder ls → spoken_front (codes "order") (order_of s) (order_text s ls ++ rest) ≡ Some (ls, rest)
order_read s ls rest few is =
    spoken_again (codes "order") (order_of s) (pos s ∷ line_numbers ls) ls rest order_word (omega (arith, few), line_numbers_few ls is.range) (order_again s ls is)

pub cost_read : (k : ℕ) (rest : List ℕ) → k ≤ most_cost → spoken_front (codes "cost") cost_of (cost_text k ++ rest) ≡ Some (k, rest)
cost_read k rest few = spoken_again (codes "cost") cost_of (pos k ∷ []) k rest cost_word (omega (arith, few), tt) (cost_again k few)

-- ---- all of them, read again

importance_due_again : (ps : List (LineId × ℕ)) (rest : List ℕ) → ArePairs 0 ps → reading after (importance_due (texts.version_of ps)) (importance_text ps ++ rest) ≡ Ok rest
importance_due_again [] rest are = importance_none 1 rest (λ e. omega (arith, e))
importance_due_again (p ∷ ps) rest are = importance_goes_on 2 (importance_text (p ∷ ps) ++ rest) (p ∷ ps) rest refl (importance_read p ps rest are)

walks_due_again : (s : ℕ) (ws : List PlainWalk) (rest : List ℕ) → s + length ws ≤ most_segs → AllByRecursion IsWalk ws → reading after (walks_due s (length ws)) (walks_text s ws ++ rest) ≡ Ok rest
walks_due_again s [] rest few are = reading_nothing after rest
walks_due_again s (w ∷ ws) rest few are =
    let more = length ws in
    let behind = walks_text (suc s) ws ++ rest in
    ap (reading after (walks_due s (suc more))) (append_assoc (walk_text s w) (walks_text (suc s) ws) rest)
    ∙ goes_on after (λ (_ : PlainWalk). walks_due (suc s) more) (walk_in s) (AWalk s more) [] (walk_text s w ++ behind) w behind (front_map (λ (_ : PlainWalk). walks_due (suc s) more) (walk_in s) (walk_text s w ++ behind))
    (walk_again s w behind (omega arith) are.0)
    ∙ ap (λ (due : List Due). reading after due behind) (append-nil (walks_due (suc s) more))
    ∙ walks_due_again (suc s) ws rest (omega arith) are.1

orders_due_again : (s : ℕ) (os : List (List LineId)) (rest : List ℕ) → s + length os ≤ most_segs → AllByRecursion IsOrder os → reading after (orders_due s (length os)) (orders_text s os ++ rest) ≡ Ok rest
orders_due_again s [] rest few are = reading_nothing after rest
orders_due_again s (o ∷ os) rest few are =
    let more = length os in
    let behind = orders_text (suc s) os ++ rest in
    ap (reading after (orders_due s (suc more))) (append_assoc (order_text s o) (orders_text (suc s) os) rest)
    ∙ goes_on after (λ (_ : List LineId). orders_due (suc s) more) (orders_in s) (AnOrder s more) [] (order_text s o ++ behind) o behind (front_map (λ (_ : List LineId). orders_due (suc s) more) (orders_in s) (order_text s o ++ behind))
    (spoken_is (codes "order") (order_of s) (order_text s o ++ behind) ∙ order_read s o behind (omega arith) are.0)
    ∙ ap (λ (due : List Due). reading after due behind) (append-nil (orders_due (suc s) more))
    ∙ orders_due_again (suc s) os rest (omega arith) are.1

-- the parts of a certificate's text, one behind the other
pub apart : (c : PlainCertificate) (rest : List ℕ)
    → head_text c ++ rest ≡ version_text c.importance ++ (counts_text c.nodes c.segs c.lines ++ (importance_text c.importance ++ (walks_text 0 c.walks ++ (orders_text 0 c.orders ++ (cost_text c.cost ++ rest)))))
apart c rest =
    let b = counts_text c.nodes c.segs c.lines in
    let i = importance_text c.importance in
    let w = walks_text 0 c.walks in
    let o = orders_text 0 c.orders in
    let k = cost_text c.cost in
    append_assoc (version_text c.importance) (b ++ (i ++ (w ++ (o ++ k)))) rest
    ∙ ap (λ (bytes : List ℕ). version_text c.importance ++ bytes) (append_assoc b (i ++ (w ++ (o ++ k))) rest
    ∙ ap (λ (bytes : List ℕ). b ++ bytes) (append_assoc i (w ++ (o ++ k)) rest
    ∙ ap (λ (bytes : List ℕ). i ++ bytes) (append_assoc w (o ++ k) rest ∙ ap (λ (bytes : List ℕ). w ++ bytes) (append_assoc o k rest))))

head_again : (c : PlainCertificate) (rest : List ℕ) → IsInRange c → head_end (head_text c ++ rest) ≡ Ok rest
head_again c rest range =
    let n : Counts = record { nodes = c.nodes; segs = c.segs; lines = c.lines } in
    let v = texts.version_of c.importance in
    let five = cost_text c.cost ++ rest in
    let four = orders_text 0 c.orders ++ five in
    let three = walks_text 0 c.walks ++ four in
    let two = importance_text c.importance ++ three in
    let one = counts_text c.nodes c.segs c.lines ++ two in
    let walks : reading after (walks_due 0 c.segs) three ≡ Ok four =
    ap (λ (m : ℕ). reading after (walks_due 0 m) three) (sym range.walks_each) ∙ walks_due_again 0 c.walks four (omega (arith, range.walks_each, range.segs)) range.walks in
    let orders : reading after (orders_due 0 c.segs) four ≡ Ok five =
    ap (λ (m : ℕ). reading after (orders_due 0 m) four) (sym range.orders_each) ∙ orders_due_again 0 c.orders five (omega (arith, range.orders_each, range.segs)) range.orders in
    ap head_end (apart c rest)
    ∙ version_goes_on (version_text c.importance ++ one) v one (version_read c.importance one)
    ∙ counts_go_on v one n two (counts_read n two range.nodes range.segs range.lines)
    ∙ cost_left v c.segs two three four five (importance_due_again c.importance three range.importance) walks orders
    ∙ cost_goes_on five c.cost rest (cost_read c.cost rest range.cost)

abbrev ok : ℕ → Result ℕ ℕ
ok n = Ok n

pub whole_again : (c : PlainCertificate) → IsInRange c → certificate_end (certificate_text c) ≡ Ok (length (certificate_text c))
whole_again c range =
    let rest = proof_text c.proof in
    let bytes = certificate_text c in
    let alone : proof_end rest ≡ Ok (length rest) = ap proof_end (sym (append-nil rest)) ∙ end_again c.proof [] range.proof in
    let size : (length bytes - length rest) + length rest ≡ length bytes = omega (arith, length-append (head_text c) rest) in
    head_then bytes rest (Ok (length bytes)) (head_again c rest range) (ends_whole (length bytes - length rest) (length rest) rest alone refl ∙ ap ok size)

ok_no_err : (m n : ℕ) → ok m ≡ Err n → ⊥
ok_no_err m n e = cc

pub none_where_stopped : (bytes : List ℕ) (at : ℕ) (c : PlainCertificate) → certificate_end bytes ≡ Err at → IsInRange c → bytes ≡ certificate_text c → ⊥
none_where_stopped bytes at c stopped range e = ok_no_err (length (certificate_text c)) at (sym (whole_again c range) ∙ sym (ap certificate_end e) ∙ stopped)

-- ---- one spelling

-- two things that one reading finds at the front of one text
same : {A : Type 0} (reading : List ℕ → Option (A × List ℕ)) (a b : A) (x y s t : List ℕ) → reading s ≡ Some (a, x) → reading t ≡ Some (b, y) → s ≡ t → (a ≡ b) × (x ≡ y)
same {A} reading a b x y s t first second e =
    let one : (a, x) ≡ (b, y) = same_Some (a, x) (b, y) (sym first ∙ ap reading e ∙ second) in
    (ap (λ (p : A × List ℕ). p.0) one, ap (λ (p : A × List ℕ). p.1) one)

importance_same : (ps qs : List (LineId × ℕ)) (a b : List ℕ) → ArePairs 0 ps → ArePairs 0 qs → texts.version_of ps ≡ texts.version_of qs → importance_text ps ++ a ≡ importance_text qs ++ b → (ps ≡ qs) × (a ≡ b)
importance_same [] [] a b first second version e = (refl, e)
importance_same (p ∷ ps) (q ∷ qs) a b first second version e =
    same (spoken_front (codes "importance") importance_of) (p ∷ ps) (q ∷ qs) a b (importance_text (p ∷ ps) ++ a) (importance_text (q ∷ qs) ++ b) (importance_read p ps a first) (importance_read q qs b second) e
importance_same ps qs a b first second version e = absurd (omega (arith, version))

walks_same : (s : ℕ) (ws vs : List PlainWalk) (a b : List ℕ) → s + length ws ≤ most_segs → length ws ≡ length vs → AllByRecursion IsWalk ws → AllByRecursion IsWalk vs → walks_text s ws ++ a ≡ walks_text s vs ++ b → (ws ≡ vs) × (a ≡ b)
walks_same s [] [] a b few count first second e = (refl, e)
walks_same s (w ∷ ws) (v ∷ vs) a b few count first second e =
    let x = walks_text (suc s) ws ++ a in
    let y = walks_text (suc s) vs ++ b in
    let head = same (front (walk_in s)) w v x y (walk_text s w ++ x) (walk_text s v ++ y) (walk_again s w x (omega arith) first.0) (walk_again s v y (omega arith) second.0)
    (sym (append_assoc (walk_text s w) (walks_text (suc s) ws) a) ∙ e ∙ append_assoc (walk_text s v) (walks_text (suc s) vs) b) in
    let later = walks_same (suc s) ws vs a b (omega arith) (omega arith) first.1 second.1 head.1 in
    (ap (λ (z : PlainWalk). z ∷ ws) head.0 ∙ ap (λ (zs : List PlainWalk). v ∷ zs) later.0, later.1)
walks_same s ws vs a b few count first second e = absurd (omega arith)

orders_same : (s : ℕ) (os us : List (List LineId)) (a b : List ℕ) → s + length os ≤ most_segs → length os ≡ length us → AllByRecursion IsOrder os → AllByRecursion IsOrder us → orders_text s os ++ a ≡ orders_text s us ++ b → (os ≡ us) × (a ≡ b)
orders_same s [] [] a b few count first second e = (refl, e)
orders_same s (o ∷ os) (u ∷ us) a b few count first second e =
    let x = orders_text (suc s) os ++ a in
    let y = orders_text (suc s) us ++ b in
    let head = same (spoken_front (codes "order") (order_of s)) o u x y (order_text s o ++ x) (order_text s u ++ y) (order_read s o x (omega arith) first.0) (order_read s u y (omega arith) second.0)
    (sym (append_assoc (order_text s o) (orders_text (suc s) os) a) ∙ e ∙ append_assoc (order_text s u) (orders_text (suc s) us) b) in
    let later = orders_same (suc s) os us a b (omega arith) (omega arith) first.1 second.1 head.1 in
    (ap (λ (z : List LineId). z ∷ os) head.0 ∙ ap (λ (zs : List (List LineId)). u ∷ zs) later.0, later.1)
orders_same s os us a b few count first second e = absurd (omega arith)

abbrev made : ℕ → ℕ → ℕ → List (LineId × ℕ) → List PlainWalk → List (List LineId) → ℕ → PlainProof → PlainCertificate
made n s l ps ws os k p = record { nodes = n; segs = s; lines = l; importance = ps; walks = ws; orders = os; cost = k; proof = p }

pub certificate_same : (c d : PlainCertificate) → IsInRange c → IsInRange d → certificate_text c ≡ certificate_text d → c ≡ d
certificate_same c d first second e =
    let p = proof_text c.proof in
    let q = proof_text d.proof in
    let m : Counts = record { nodes = c.nodes; segs = c.segs; lines = c.lines } in
    let n : Counts = record { nodes = d.nodes; segs = d.segs; lines = d.lines } in
    let c5 = cost_text c.cost ++ p in
    let c4 = orders_text 0 c.orders ++ c5 in
    let c3 = walks_text 0 c.walks ++ c4 in
    let c2 = importance_text c.importance ++ c3 in
    let c1 = counts_text c.nodes c.segs c.lines ++ c2 in
    let d5 = cost_text d.cost ++ q in
    let d4 = orders_text 0 d.orders ++ d5 in
    let d3 = walks_text 0 d.walks ++ d4 in
    let d2 = importance_text d.importance ++ d3 in
    let d1 = counts_text d.nodes d.segs d.lines ++ d2 in
    let version = same (spoken_front (codes "octimap") version_of) (texts.version_of c.importance) (texts.version_of d.importance) c1 d1 (version_text c.importance ++ c1) (version_text d.importance ++ d1)
    (version_read c.importance c1) (version_read d.importance d1) (sym (apart c p) ∙ e ∙ apart d q) in
    let counts = same (spoken_front (codes "graph") counts_of) m n c2 d2 c1 d1 (counts_read m c2 first.nodes first.segs first.lines) (counts_read n d2 second.nodes second.segs second.lines) version.1 in
    let segs : c.segs ≡ d.segs = ap (λ (x : Counts). x.segs) counts.0 in
    let importance = importance_same c.importance d.importance c3 d3 first.importance second.importance version.0 counts.1 in
    let walks = walks_same 0 c.walks d.walks c4 d4 (omega (arith, first.walks_each, first.segs)) (omega (arith, first.walks_each, second.walks_each, segs)) first.walks second.walks importance.1 in
    let orders = orders_same 0 c.orders d.orders c5 d5 (omega (arith, first.orders_each, first.segs)) (omega (arith, first.orders_each, second.orders_each, segs)) first.orders second.orders walks.1 in
    let cost = same (spoken_front (codes "cost") cost_of) c.cost d.cost p q c5 d5 (cost_read c.cost p first.cost) (cost_read d.cost q second.cost) orders.1 in
    let proof = proof_same c.proof d.proof [] [] first.proof second.proof (append-nil p ∙ cost.1 ∙ sym (append-nil q)) in
    ap (λ (x : Counts). made x.nodes x.segs x.lines c.importance c.walks c.orders c.cost c.proof) counts.0
    ∙ ap (λ x. made d.nodes d.segs d.lines x c.walks c.orders c.cost c.proof) importance.0
    ∙ ap (λ x. made d.nodes d.segs d.lines d.importance x c.orders c.cost c.proof) walks.0
    ∙ ap (λ x. made d.nodes d.segs d.lines d.importance d.walks x c.cost c.proof) orders.0
    ∙ ap (λ x. made d.nodes d.segs d.lines d.importance d.walks d.orders x c.proof) cost.0
    ∙ ap (λ x. made d.nodes d.segs d.lines d.importance d.walks d.orders d.cost x) proof.0
