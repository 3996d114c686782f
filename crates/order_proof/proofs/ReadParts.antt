-- A part, and parts one after the other.
use Rattle.std.proofs.Common.{◌≡◌, ℕ, suc, ◌+◌, ◌-◌, ◌<◌, List, [], ◌∷◌, ◌++◌, map, Option, Some, None, Result, Ok, Err, refl, ap, subst, sym, ◌∙◌, append_assoc, arith}
use Rattle.std.proofs.lemmas.List.{append-nil, length-append}
use Rattle.map_base.specs.declared.ids.SegId.{SegId}
use Rattle.order_proof.specs.declared.proof.Part.{Part}
use Rattle.order_proof.specs.Plain.{PlainPartTree, PlainPart, plain_part}
use Rattle.order_proof.specs.Lines.{line_text, part_line}
use Rattle.order_proof.specs.FrontLine.{front}
use Rattle.order_proof.specs.Forms.{part_in}
use Rattle.order_proof.specs.Text.{part_tree_text, part_text, parts_text}
use Rattle.order_proof.specs.Ranges.{IsPartInRange}
use Rattle.order_proof.specs.Reading.{Due, APartTree, APart, parts_due, reading}
use Rattle.order_proof.specs.Readers.{IsPartTreeOf, IsPartOf, ArePartsOf}
use Rattle.order_proof.proofs.Fronts.{front_map, front_is}
use Rattle.decimal_text.proofs.Steps.{then_read}
use Rattle.order_proof.proofs.Steps.{goes_on, stops, reading_nothing, reading_after}
use Rattle.order_proof.proofs.FormLemmas.{part_is, front_text}
use Rattle.order_proof.proofs.ReadRules.{all-append}

abbrev Head : Type 0
Head = ℕ × List SegId

pub head_stops : (more : ℕ) (text : List ℕ) → front part_in text ≡ None → reading (parts_due (suc more)) text ≡ Err text
head_stops more text none = stops (λ (_ : Head). APartTree ∷ parts_due more) part_in (APart more) [] text (front_map (λ (_ : Head). APartTree ∷ parts_due more) part_in text) none

pub head_goes_on : (more : ℕ) (text : List ℕ) (head : Head) (rest : List ℕ) → front part_in text ≡ Some (head, rest) → reading (parts_due (suc more)) text ≡ reading (APartTree ∷ parts_due more) rest
head_goes_on more text head rest there =
    goes_on (λ (_ : Head). APartTree ∷ parts_due more) part_in (APart more) [] text head rest (front_map (λ (_ : Head). APartTree ∷ parts_due more) part_in text) there
    ∙ ap (λ (due : List Due). reading (APartTree ∷ due) rest) (append-nil (parts_due more))

-- a part, and then the others
pub part_then : (more : ℕ) (text : List ℕ) → reading (parts_due (suc more)) text ≡ then_read (reading (parts_due 1) text) (reading (parts_due more))
part_then more text = by (front part_in text) refl
  where
    by : (o : Option (Head × List ℕ)) → front part_in text ≡ o → reading (parts_due (suc more)) text ≡ then_read (reading (parts_due 1) text) (reading (parts_due more))
    by None none = head_stops more text none ∙ sym (ap (λ (r : Result (List ℕ) (List ℕ)). then_read r (reading (parts_due more))) (head_stops 0 text none))
    by (Some x) there =
        head_goes_on more text x.0 x.1 there ∙ reading_after (APartTree ∷ []) (parts_due more) x.1
        ∙ sym (ap (λ (r : Result (List ℕ) (List ℕ)). then_read r (reading (parts_due more))) (head_goes_on 0 text x.0 x.1 there))

pub part_read : (text : List ℕ) (target : ℕ) (segs : List SegId) (behind : List ℕ) (tree : PlainPartTree) (rest : List ℕ) → front part_in text ≡ Some ((target, segs), behind) → IsPartTreeOf tree behind rest
    → IsPartOf (record { segs = segs; target = target; tree = tree }) text rest
part_read text target segs behind tree rest there is =
    let said = front_is part_in text (target, segs) behind there in
    let head = part_is said.line (target, segs) said.says in
    let line = front_text part_in text (target, segs) behind (part_line target segs) (λ l e. (part_is l (target, segs) e).0) there in
    record {
      range = record { target = head.1; segs = head.2; tree = is.range; depth = is.depth };
      front = line ∙ ap (λ (bytes : List ℕ). line_text (part_line target segs) ++ bytes) is.front ∙ sym (append_assoc (line_text (part_line target segs)) (part_tree_text tree) rest);
    }

-- the parts so far, and what is due behind them
pub record ArePartsSoFar (count done : ℕ) (parts : List Part) (text rest : List ℕ) : Type 0 where
  pub left : reading (parts_due (count - done)) rest ≡ reading (parts_due count) text
  pub so_far : ArePartsOf done (map plain_part parts) text rest

pub parts_begin : (count : ℕ) (text : List ℕ) → ArePartsSoFar count 0 [] text text
parts_begin count text = record {
  left = ap (λ (n : ℕ). reading (parts_due n) text) (omega arith);
  so_far = record { counted = refl; range = tt; front = refl };
}

due_next : (count done : ℕ) → done < count → parts_due (count - done) ≡ parts_due (suc (count - (done + 1)))
due_next count done below = let next : count - done ≡ suc (count - (done + 1)) = omega arith in ap parts_due next

-- one more part is due, and then the others
pub part_next : (count done : ℕ) (parts : List Part) (text rest : List ℕ) → done < count → ArePartsSoFar count done parts text rest
    → reading (parts_due count) text ≡ then_read (reading (parts_due 1) rest) (reading (parts_due (count - (done + 1))))
part_next count done parts text rest below before =
    sym before.left ∙ ap (λ (due : List Due). reading due rest) (due_next count done below) ∙ part_then (count - (done + 1)) rest

plain_push : (parts : List Part) (p : Part) → map plain_part (parts ++ p ∷ []) ≡ map plain_part parts ++ plain_part p ∷ []
plain_push [] p = refl
plain_push (q ∷ parts) p = ap (λ (ps : List PlainPart). plain_part q ∷ ps) (plain_push parts p)

parts_text_push : (parts : List PlainPart) (p : PlainPart) → parts_text (parts ++ p ∷ []) ≡ parts_text parts ++ part_text p
parts_text_push [] p = append-nil (part_text p)
parts_text_push (q ∷ parts) p = ap (λ (bytes : List ℕ). part_text q ++ bytes) (parts_text_push parts p) ∙ sym (append_assoc (part_text q) (parts_text parts) (part_text p))

pub part_taken : (count done : ℕ) (parts new : List Part) (text rest behind : List ℕ) (p : Part) → done < count → ArePartsSoFar count done parts text rest
    → reading (parts_due 1) rest ≡ Ok behind → IsPartOf (plain_part p) rest behind → new ≡ parts ++ p ∷ [] → ArePartsSoFar count (done + 1) new text behind
part_taken count done parts new text rest behind p below before read is pushed =
    let step : reading (parts_due (count - done)) rest ≡ reading (parts_due (count - (done + 1))) behind =
    ap (λ (due : List Due). reading due rest) (due_next count done below) ∙ part_then (count - (done + 1)) rest
    ∙ ap (λ (r : Result (List ℕ) (List ℕ)). then_read r (reading (parts_due (count - (done + 1))))) read in
    let so_far : ArePartsOf (done + 1) (map plain_part parts ++ plain_part p ∷ []) text behind = record {
      counted = omega (arith, before.so_far.counted, length-append (map plain_part parts) (plain_part p ∷ []));
      range = all-append IsPartInRange (map plain_part parts) (plain_part p ∷ []) before.so_far.range (is.range, tt);
      front = before.so_far.front ∙ ap (λ (bytes : List ℕ). parts_text (map plain_part parts) ++ bytes) is.front
          ∙ sym (append_assoc (parts_text (map plain_part parts)) (part_text (plain_part p)) behind)
          ∙ ap (λ (bytes : List ℕ). bytes ++ behind) (sym (parts_text_push (map plain_part parts) (plain_part p)));
    } in
    subst (λ (ps : List Part). ArePartsSoFar count (done + 1) ps text behind) (sym pushed) (record {
      left = sym step ∙ before.left;
      so_far = subst (λ (ps : List PlainPart). ArePartsOf (done + 1) ps text behind) (sym (plain_push parts p)) so_far;
    })

pub parts_end : (count done : ℕ) (parts : List Part) (text rest : List ℕ) → count ≡ done → ArePartsSoFar count done parts text rest → reading (parts_due count) text ≡ Ok rest
parts_end count done parts text rest is before =
    let nothing : count - done ≡ 0 = omega arith in
    sym before.left ∙ ap (λ (n : ℕ). reading (parts_due n) rest) nothing ∙ reading_nothing rest
