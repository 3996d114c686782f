-- The first item of a proof that is refused.
use Rattle.std.specs.Prelude.{◌≡◌, ℕ, ◌+◌, ◌==◌, Bool, true, false, ◌&&◌, List, [], ◌∷◌, sum_by, if◌then◌else◌, Option, Some, None}
use Rattle.map_base.specs.declared.ids.SegId.{SegId}
use Rattle.map_base.specs.declared.ids.LineId.{LineId}
use Rattle.order_model.specs.declared.term.Term.{Term}
use Rattle.order_model.specs.declared.problem.ProblemParts.{ProblemParts}
use Rattle.order_model.specs.Costs.{cost_of}
use Rattle.order_model.specs.Gathering.{problem_parts}
use Rattle.order_proof.specs.Plain.{PlainPartTree, by_cases, by_pairs, PlainPart, PlainProof}
use Rattle.order_model.specs.PartTerms.{part_terms}
use Rattle.order_model.specs.Prefixes.{none_placed}
use Rattle.order_rules.specs.Untangling.{after_rules, first_refused}
use Rattle.order_bound.specs.Accepting as cases
use Rattle.dual_bound.specs.Accepting as pairs
use Rattle.order_model.specs.Questions.{Question, question}
use Rattle.order_check.specs.declared.refusal.ProofItem.{ProofItem}
use Rattle.order_check.specs.declared.refusal.ProofItem.TheVariants as item
use Rattle.order_check.specs.declared.refusal.ProofStop.{ProofStop}
use Rattle.order_check.specs.declared.refusal.ProofStop.TheVariants as stop

-- the same segments in the same order
abbrev pub are_same : List SegId → List SegId → Bool
are_same [] [] = true
are_same [] (t ∷ ts) = false
are_same (s ∷ ss) [] = false
are_same (s ∷ ss) (t ∷ ts) = s.0 == t.0 && are_same ss ts

-- the first of two items, where there is one
abbrev pub first_item : Option ProofItem → Option ProofItem → Option ProofItem
first_item None other = other
first_item (Some i) other = Some i

-- the lines on the way to the node of a part's tree that fails: of a tree of cases from the empty prefix on, of a dual tree
-- from no settled pairs on
abbrev pub failing : Question → PlainPartTree → Option (List LineId)
failing q (by_cases tree) = cases.failing q (none_placed q.segs) tree
failing q (by_pairs tree) = pairs.failing q tree

-- part k is refused for the lines on the way to the node of its tree that fails
abbrev pub tree_refusal : ℕ → Option (List LineId) → Option ProofItem
tree_refusal k None = None
tree_refusal k (Some way) = Some (item.Part k way)

-- part k of the proof is refused with no lines where its segments are others, else by its tree
abbrev pub part_refusal : List (List LineId) → List Term → ℕ → List SegId → PlainPart → Option ProofItem
part_refusal segs terms k part p =
    if are_same part p.segs then tree_refusal k (failing (question segs part (part_terms terms part) p.target) p.tree)
    else Some (item.Part k [])

-- the first part, from part k on, that is refused; a part that is missing or left over is refused with no lines
abbrev pub first_part : List (List LineId) → List Term → ℕ → List (List SegId) → List PlainPart → Option ProofItem
first_part segs terms k [] [] = None
first_part segs terms k [] (p ∷ proofs) = Some (item.Part k [])
first_part segs terms k (part ∷ parts) [] = Some (item.Part k [])
first_part segs terms k (part ∷ parts) (p ∷ proofs) = first_item (part_refusal segs terms k part p) (first_part segs terms (k + 1) parts proofs)

-- the sum of the targets
abbrev pub targets : List PlainPart → ℕ
targets proofs = sum_by (λ (p : PlainPart). p.target) proofs

-- the total is refused where the targets do not sum to the cost
abbrev pub total_refusal : List PlainPart → ℕ → Option ProofItem
total_refusal proofs cost = if targets proofs == cost then None else Some item.Total

-- the rule of this number is refused
abbrev pub rule_refusal : Option ℕ → Option ProofItem
rule_refusal None = None
rule_refusal (Some k) = Some (item.Rule k)

-- The first item of a proof that is refused, whatever its targets sum to. The rules come first: the first that does not
-- apply in its turn is refused. Then come the parts of the problem that the rules make.
abbrev pub bound_refusal : ProblemParts → PlainProof → Option ProofItem
bound_refusal p proof =
    let last = after_rules p proof.rules in
    first_item (rule_refusal (first_refused 0 p proof.rules)) (first_part last.segs last.terms 0 (problem_parts last.segs last.terms) proof.parts)

-- The verdict on a whole proof that orders cost least: last comes the total of the targets, which has to be what the orders
-- cost on the problem itself.
abbrev pub verdict : ProblemParts → List (List LineId) → PlainProof → Option ProofItem
verdict p orders proof = first_item (bound_refusal p proof) (total_refusal proof.parts (cost_of p.terms orders))

-- the stop names this item; want of memory is free
abbrev pub IsCause : Option ProofItem → ProofStop → Type 0
IsCause outcome (stop.Refuted i) = outcome ≡ Some i
IsCause outcome stop.NoMemory = Unit {0}
