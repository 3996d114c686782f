-- What stands before the proof, section by section.
use Rattle.std.proofs.Common.{◌≡◌, ℕ, zero, suc, ◌≤◌, ℤ, pos, List, [], ◌∷◌, ◌++◌, codes, length, Option, Some, None, Result, Ok, Err, refl, ap, sym, ◌∙◌, arith}
use Rattle.std.proofs.lemmas.List.{append-nil}
use Rattle.map_base.specs.declared.ids.LineId.{LineId}
use Rattle.octi_grid.specs.Walks.{PlainWalk}
use Rattle.decimal_text.specs.Lines.{front, numbers_text}
use Rattle.decimal_text.specs.Reading.{reading, go_on}
use Rattle.decimal_text.specs.Readers.{left_of, IsStopWithin}
use Rattle.decimal_text.specs.declared.fault.Stop.{Stop}
use Rattle.decimal_text.specs.declared.fault.Stop.TheVariants as stop
use Rattle.decimal_text.proofs.LineLemmas.{front_map, front_shorter, front_empty}
use Rattle.decimal_text.proofs.Steps.{goes_on, stops, reading_nothing, reading_line, reading_after, then_read}
use Rattle.decimal_text.proofs.Stops.{StopsIn}
use Rattle.cert_file.specs.declared.counts.Counts.{Counts}
use Rattle.cert_file.specs.Forms.{spoken_front, version_of, counts_of, cost_of, version_in, counts_in, cost_in}
use Rattle.cert_file.specs.Text.{version_text, counts_text, importance_text, walks_text, orders_text, cost_text}
use Rattle.cert_file.specs.Reading.{Due, Version, AllCounts, Cost, after, importance_due, walks_due, orders_due, rest_due}
use Rattle.cert_file.specs.Readers.{AreImportanceOf, AreWalksOf, AreOrdersOf, IsBodyOf, IsHeadOf, IsVersion}
use Rattle.cert_file.proofs.FormLemmas.{spoken_is, spoken_text, version_is, counts_are, cost_is}

abbrev Ends : Type 0
Ends = Result (List ℕ) (List ℕ)

abbrev cost_due : List Due
cost_due = Cost ∷ []

-- ---- between the counts and the proof

pub body_begins : (v segs : ℕ) (text : List ℕ)
    → reading after (rest_due v segs) text ≡ then_read (reading after (importance_due v) text) (reading after (walks_due 0 segs ++ (orders_due 0 segs ++ (Cost ∷ []))))
body_begins v segs text = reading_after after (importance_due v) (walks_due 0 segs ++ (orders_due 0 segs ++ cost_due)) text

pub walks_left : (v segs : ℕ) (text one : List ℕ) → reading after (importance_due v) text ≡ Ok one
    → reading after (rest_due v segs) text ≡ then_read (reading after (walks_due 0 segs) one) (reading after (orders_due 0 segs ++ (Cost ∷ [])))
walks_left v segs text one e =
    body_begins v segs text ∙ ap (λ (r : Ends). then_read r (reading after (walks_due 0 segs ++ (orders_due 0 segs ++ cost_due)))) e
    ∙ reading_after after (walks_due 0 segs) (orders_due 0 segs ++ cost_due) one

pub orders_left : (v segs : ℕ) (text one two : List ℕ) → reading after (importance_due v) text ≡ Ok one → reading after (walks_due 0 segs) one ≡ Ok two
    → reading after (rest_due v segs) text ≡ then_read (reading after (orders_due 0 segs) two) (reading after (Cost ∷ []))
orders_left v segs text one two e f =
    walks_left v segs text one e ∙ ap (λ (r : Ends). then_read r (reading after (orders_due 0 segs ++ cost_due))) f ∙ reading_after after (orders_due 0 segs) cost_due two

pub cost_left : (v segs : ℕ) (text one two three : List ℕ) → reading after (importance_due v) text ≡ Ok one → reading after (walks_due 0 segs) one ≡ Ok two → reading after (orders_due 0 segs) two ≡ Ok three
    → reading after (rest_due v segs) text ≡ reading after (Cost ∷ []) three
cost_left v segs text one two three e f g = orders_left v segs text one two e f ∙ ap (λ (r : Ends). then_read r (reading after cost_due)) g

pub cost_stops : (text : List ℕ) → spoken_front (codes "cost") cost_of text ≡ None → reading after (Cost ∷ []) text ≡ Err text
cost_stops text none = stops after (λ (_ : ℕ). []) cost_in Cost [] text (front_map (λ (_ : ℕ). []) cost_in text) (spoken_is (codes "cost") cost_of text ∙ none)

pub cost_goes_on : (text : List ℕ) (k : ℕ) (rest : List ℕ) → spoken_front (codes "cost") cost_of text ≡ Some (k, rest) → reading after (Cost ∷ []) text ≡ Ok rest
cost_goes_on text k rest there =
    goes_on after (λ (_ : ℕ). []) cost_in Cost [] text k rest (front_map (λ (_ : ℕ). []) cost_in text) (spoken_is (codes "cost") cost_of text ∙ there) ∙ reading_nothing after rest

pub body_read : (v segs : ℕ) (ps : List (LineId × ℕ)) (ws : List PlainWalk) (os : List (List LineId)) (k : ℕ) (text one two three rest : List ℕ)
    → AreImportanceOf v ps text one → AreWalksOf segs ws one two → AreOrdersOf segs os two three → spoken_front (codes "cost") cost_of three ≡ Some (k, rest) → IsBodyOf v segs ps ws os k text rest
body_read v segs ps ws os k text one two three rest pairs walks orders there =
    let s = spoken_text (codes "cost") cost_of three k rest there in
    let is = cost_is s.numbers k s.says in
    let line : three ≡ cost_text k ++ rest = s.text_is ∙ ap (λ (zs : List ℤ). (codes "cost" ++ numbers_text zs) ++ rest) is.0 in
    record {
      version_is = pairs.version_is;
      pairs = pairs.range;
      walks_each = walks.counted;
      each_walk = walks.range;
      orders_each = orders.counted;
      each_order = orders.range;
      small = is.1;
      front = pairs.front ∙ ap (λ (bytes : List ℕ). importance_text ps ++ bytes) (walks.front
          ∙ ap (λ (bytes : List ℕ). walks_text 0 ws ++ bytes) (orders.front ∙ ap (λ (bytes : List ℕ). orders_text 0 os ++ bytes) line));
    }

-- ---- the version and the counts

pub version_stops : (text : List ℕ) → spoken_front (codes "octimap") version_of text ≡ None → reading after (Version ∷ []) text ≡ Err text
version_stops text none =
    stops after (λ (v : ℕ). AllCounts v ∷ []) version_in Version [] text (front_map (λ (v : ℕ). AllCounts v ∷ []) version_in text) (spoken_is (codes "octimap") version_of text ∙ none)

pub version_goes_on : (text : List ℕ) (v : ℕ) (rest : List ℕ) → spoken_front (codes "octimap") version_of text ≡ Some (v, rest) → reading after (Version ∷ []) text ≡ reading after (AllCounts v ∷ []) rest
version_goes_on text v rest there =
    goes_on after (λ (u : ℕ). AllCounts u ∷ []) version_in Version [] text v rest (front_map (λ (u : ℕ). AllCounts u ∷ []) version_in text) (spoken_is (codes "octimap") version_of text ∙ there)

pub version_range : (text : List ℕ) (v : ℕ) (rest : List ℕ) → spoken_front (codes "octimap") version_of text ≡ Some (v, rest) → IsVersion v
version_range text v rest there = let s = spoken_text (codes "octimap") version_of text v rest there in let is = version_is s.numbers v s.says in (is.1, is.2)

pub counts_stop : (v : ℕ) (text : List ℕ) → spoken_front (codes "graph") counts_of text ≡ None → reading after (AllCounts v ∷ []) text ≡ Err text
counts_stop v text none =
    stops after (λ (n : Counts). rest_due v n.segs) counts_in (AllCounts v) [] text (front_map (λ (n : Counts). rest_due v n.segs) counts_in text) (spoken_is (codes "graph") counts_of text ∙ none)

pub counts_go_on : (v : ℕ) (text : List ℕ) (n : Counts) (rest : List ℕ) → spoken_front (codes "graph") counts_of text ≡ Some (n, rest) → reading after (AllCounts v ∷ []) text ≡ reading after (rest_due v n.segs) rest
counts_go_on v text n rest there =
    goes_on after (λ (m : Counts). rest_due v m.segs) counts_in (AllCounts v) [] text n rest (front_map (λ (m : Counts). rest_due v m.segs) counts_in text) (spoken_is (codes "graph") counts_of text ∙ there)
    ∙ ap (λ (due : List Due). reading after due rest) (append-nil (rest_due v n.segs))

pub head_read : (v : ℕ) (n : Counts) (ps : List (LineId × ℕ)) (ws : List PlainWalk) (os : List (List LineId)) (k : ℕ) (text one two rest : List ℕ)
    → spoken_front (codes "octimap") version_of text ≡ Some (v, one) → spoken_front (codes "graph") counts_of one ≡ Some (n, two) → IsBodyOf v n.segs ps ws os k two rest → IsHeadOf n ps ws os k text rest
head_read v n ps ws os k text one two rest version counts body =
    let s = spoken_text (codes "octimap") version_of text v one version in
    let first = version_is s.numbers v s.says in
    let t = spoken_text (codes "graph") counts_of one n two counts in
    let second = counts_are t.numbers n t.says in
    record {
      few_nodes = second.1;
      few_segs = second.2;
      few_lines = second.3;
      pairs = body.pairs;
      walks_each = body.walks_each;
      each_walk = body.each_walk;
      orders_each = body.orders_each;
      each_order = body.each_order;
      small = body.small;
      front =
          s.text_is ∙ ap (λ (zs : List ℤ). (codes "octimap" ++ numbers_text zs) ++ one) (first.0 ∙ ap (λ (u : ℕ). pos u ∷ []) (sym body.version_is))
          ∙ ap (λ (bytes : List ℕ). version_text ps ++ bytes) (t.text_is ∙ ap (λ (zs : List ℤ). (codes "graph" ++ numbers_text zs) ++ two) second.0
          ∙ ap (λ (bytes : List ℕ). counts_text n.nodes n.segs n.lines ++ bytes) body.front);
    }

-- ---- where reading stops

left_within : (most : ℕ) (due : List Due) (text : List ℕ) (left : ℕ) → length text ≤ most → left_of (reading after due text) ≡ Err left → left ≤ length text
left_within most [] text left few e = absurd (nothing (sym (ap left_of (reading_nothing after text)) ∙ e))
  where
    nothing : left_of (Ok text) ≡ Err left → ⊥
    nothing e = cc
left_within zero (d ∷ later) text left few e =
    let none = front_empty (after d) text (omega arith) in
    at_start (sym (ap left_of (reading_line after d later text ∙ ap (λ (o : Option (List Due × List ℕ)). go_on o text (λ more rest. reading after (more ++ later) rest)) none)) ∙ e)
  where
    at_start : left_of (Err text) ≡ Err left → left ≤ length text
    at_start e = let is : length text ≡ left = cc in omega arith
left_within (suc most) (d ∷ later) text left few e =
    by (λ more rest. left_within most more rest left) (front (after d) text) refl (sym (ap left_of (reading_line after d later text)) ∙ e)
  where
    by : ((more : List Due) (rest : List ℕ) → length rest ≤ most → left_of (reading after more rest) ≡ Err left → left ≤ length rest)
        → (o : Option (List Due × List ℕ)) → front (after d) text ≡ o → left_of (go_on o text (λ more rest. reading after (more ++ later) rest)) ≡ Err left → left ≤ length text
    by again None there e = let is : length text ≡ left = cc in omega arith
    by again (Some x) there e =
        let shorter = front_shorter (after d) text x.0 x.1 there in
        omega (arith, again (x.0 ++ later) x.1 (omega arith) e)

pub stop_within : (e : Stop) (due : List Due) (text : List ℕ) → StopsIn e (reading after due text) → IsStopWithin (length text) e
stop_within (stop.Wrong left) due text follows = left_within (length text) due text left (omega arith) follows
stop_within stop.Memory due text follows = tt
