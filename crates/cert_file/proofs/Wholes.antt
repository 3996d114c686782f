-- A certificate's head and its proof.
use Rattle.std.proofs.Common.{◌≡◌, ℕ, ◌+◌, ◌-◌, Bool, cond, List, ◌++◌, length, Result, Ok, Err, ap, sym, ◌∙◌, append_assoc}
use Rattle.std.proofs.lemmas.Bool.{eq-eqb, ne_eqb}
use Rattle.map_base.specs.declared.ids.LineId.{LineId}
use Rattle.octi_grid.specs.Walks.{PlainWalk}
use Rattle.order_proof.specs.Plain.{PlainProof}
use Rattle.order_proof.specs.Text.{proof_text}
use Rattle.order_proof.specs.Reading.{proof_end}
use Rattle.cert_file.specs.declared.counts.Counts.{Counts}
use Rattle.cert_file.specs.Text.{version_text, counts_text, importance_text, walks_text, orders_text, cost_text}
use Rattle.cert_file.specs.Reading.{proof_place, whole_end, head_end, certificate_end}
use Rattle.cert_file.specs.Readers.{IsHeadOf, IsWholeProof, IsTextOf, certificate_with}

pub ends_whole : (place used : ℕ) (bytes : List ℕ) → proof_end bytes ≡ Ok used → used ≡ length bytes → proof_place place (length bytes) (proof_end bytes) ≡ Ok (place + length bytes)
ends_whole place used bytes e all = ap (proof_place place (length bytes)) e
    ∙ ap (λ (b : Bool). let r : Result ℕ ℕ = cond b (Ok (place + used)) (Err (place + used)) in r) (eq-eqb used (length bytes) all)
    ∙ ap (λ (n : ℕ). let r : Result ℕ ℕ = Ok (place + n) in r) all

pub ends_before : (place used : ℕ) (bytes : List ℕ) → proof_end bytes ≡ Ok used → (used ≡ length bytes → ⊥) → proof_place place (length bytes) (proof_end bytes) ≡ Err (place + used)
ends_before place used bytes e more = ap (proof_place place (length bytes)) e
    ∙ ap (λ (b : Bool). let r : Result ℕ ℕ = cond b (Ok (place + used)) (Err (place + used)) in r) (ne_eqb used (length bytes) more)

pub stops_at : (place at : ℕ) (bytes : List ℕ) → proof_end bytes ≡ Err at → proof_place place (length bytes) (proof_end bytes) ≡ Err (place + at)
stops_at place at bytes e = ap (proof_place place (length bytes)) e

-- where the whole ends
pub head_then : (bytes rest : List ℕ) (r : Result ℕ ℕ) → head_end bytes ≡ Ok rest → proof_place (length bytes - length rest) (length rest) (proof_end rest) ≡ r → certificate_end bytes ≡ r
head_then bytes rest r e f = ap (whole_end bytes) e ∙ f

pub head_stops : (bytes rest : List ℕ) → head_end bytes ≡ Err rest → certificate_end bytes ≡ Err (length bytes - length rest)
head_stops bytes rest e = ap (whole_end bytes) e

-- head and proof together
pub all_read : (n : Counts) (ps : List (LineId × ℕ)) (ws : List PlainWalk) (os : List (List LineId)) (k : ℕ) (p : PlainProof) (bytes rest : List ℕ)
    → IsHeadOf n ps ws os k bytes rest → IsWholeProof p rest → IsTextOf (certificate_with n ps ws os k p) bytes
all_read n ps ws os k p bytes rest head proof =
    let a = version_text ps in
    let b = counts_text n.nodes n.segs n.lines in
    let c = importance_text ps in
    let d = walks_text 0 ws in
    let e = orders_text 0 os in
    let f = cost_text k in
    let t = proof_text p in
    let right : a ++ (b ++ (c ++ (d ++ (e ++ (f ++ t))))) ≡ (a ++ (b ++ (c ++ (d ++ (e ++ f))))) ++ t =
    ap (λ (bytes : List ℕ). a ++ bytes) (ap (λ (bytes : List ℕ). b ++ bytes) (ap (λ (bytes : List ℕ). c ++ bytes)
    (ap (λ (bytes : List ℕ). d ++ bytes) (sym (append_assoc e f t)) ∙ sym (append_assoc d (e ++ f) t))
    ∙ sym (append_assoc c (d ++ (e ++ f)) t)) ∙ sym (append_assoc b (c ++ (d ++ (e ++ f))) t))
    ∙ sym (append_assoc a (b ++ (c ++ (d ++ (e ++ f)))) t) in
    record {
      range = record {
        nodes = head.few_nodes;
        segs = head.few_segs;
        lines = head.few_lines;
        importance = head.pairs;
        walks_each = head.walks_each;
        walks = head.each_walk;
        orders_each = head.orders_each;
        orders = head.each_order;
        cost = head.small;
        proof = proof.range;
      };
      text = head.front ∙ ap (λ (bytes : List ℕ). a ++ (b ++ (c ++ (d ++ (e ++ (f ++ bytes)))))) proof.text ∙ right;
    }
