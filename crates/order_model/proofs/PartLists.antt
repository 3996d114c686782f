-- How many parts there are, and where each lies in memory.
use Rattle.std.proofs.Common.{◌≡◌, ℕ, ◌+◌, ◌<◌, ◌≤◌, List, [], ◌∷◌, length, get_or, sym, ◌∙◌, ap, subst, arith}
use Rattle.std.specs.List.{All}
use Rattle.std.specs.Prelude.{Vec}
use Rattle.std.specs.Global.{Global}
use Rattle.std.proofs.lemmas.List.{get_or-map}
use Rattle.std.proofs.lemmas.List.Elements.{All-head, All-tail, All-contains}
use Rattle.map_base.specs.declared.ids.SegId.{SegId}
use Rattle.map_base.specs.declared.ids.LineId.{LineId}
use Rattle.order_model.specs.declared.term.Term.{Term}
use Rattle.order_model.specs.Parts.{AreParts, AreByLeast, IsRisingPart, least_of}
use Rattle.order_model.specs.Gathering.{part_lists}
use Rattle.order_model.proofs.Placing.{length-part_lists}
use Rattle.order_model.proofs.Shares.{has_least}

-- Parts by least segment are no more than there are segments.

few_by_least : (n : ℕ) (p : List SegId) (parts : List (List SegId)) → AreByLeast (p ∷ parts) → All (λ q. least_of q < n) (p ∷ parts)
    → length (p ∷ parts) + least_of p ≤ n
few_by_least n p [] h below = let one = All-head (λ q. least_of q < n) p [] below in omega arith
few_by_least n p (q ∷ parts) h below =
    let rest = few_by_least n q parts h.1 (All-tail (λ q. least_of q < n) p (q ∷ parts) below) in omega (arith, h.0, rest)

few_parts : (n : ℕ) (parts : List (List SegId)) → AreByLeast parts → All (λ q. least_of q < n) parts → length parts ≤ n
few_parts n [] h below = omega arith
few_parts n (p ∷ parts) h below = omega (arith, few_by_least n p parts h below)

least_known : (n : ℕ) (p : List SegId) → IsRisingPart p → All (λ (s : SegId). s.0 < n) p → least_of p < n
least_known n p rising known = All-contains (λ (s : SegId). s.0 < n) p (record { 0 = least_of p }) known (has_least p rising)

module _ (segs : List (List LineId)) (terms : List Term) (parts : List (List SegId)) (ok : AreParts segs terms parts) where
  -- the segments of each part are segments of the problem
  pub part_known : (k : ℕ) (d : List SegId) → k < length parts → All (λ (s : SegId). s.0 < length segs) (get_or parts k d)
  part_known k d below i e within = (ok.wide k d below i e within).0

  pub parts_few : length parts ≤ length segs
  parts_few = few_parts (length segs) parts ok.by_least (λ k d below. least_known (length segs) (get_or parts k d) (ok.rising k d below) (part_known k d below))

-- Parts as they lie in memory.

abbrev items : Vec SegId Global → List SegId
items v = v.items

pub part_at : (parts : List (Vec SegId Global)) (k : ℕ) (part : Vec SegId Global) → k < length parts → part ≡ get_or parts k part
    → get_or (part_lists parts) k [] ≡ part.items
part_at parts k part below is = get_or-map items parts k part [] below ∙ ap items (sym is)

pub part_known_at : (segs : List (List LineId)) (terms : List Term) (parts : List (Vec SegId Global)) (k : ℕ) (part : Vec SegId Global) → AreParts segs terms (part_lists parts)
    → k < length parts → part ≡ get_or parts k part → All (λ (s : SegId). s.0 < length segs) part.items
part_known_at segs terms parts k part ok below is =
    subst (λ p. All (λ (s : SegId). s.0 < length segs) p) (part_at parts k part below is)
    (part_known segs terms (part_lists parts) ok k [] (omega (arith, below, length-part_lists parts)))

pub parts_few_at : (segs : List (List LineId)) (terms : List Term) (parts : List (Vec SegId Global)) → AreParts segs terms (part_lists parts) → length parts ≤ length segs
parts_few_at segs terms parts ok = omega (arith, parts_few segs terms (part_lists parts) ok, length-part_lists parts)
