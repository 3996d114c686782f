-- What comes of a check after each of its steps.
use Rattle.std.proofs.Common.{◌≡◌, ◌∙◌, ap, sym, subst, refl, ℕ, ◌+◌, ◌==◌, eq-eqb, eqb-true, Bool, true, cond, List, [], ◌∷◌, length, Option, Some, None, option_map, Result, Ok, Err}
use Rattle.map_base.specs.declared.ids.LineId.{LineId}
use Rattle.map_base.specs.Settings.{Choices}
use Rattle.graph_core.specs.declared.parts.GraphParts.{GraphParts}
use Rattle.decimal_text.specs.declared.fault.BadText.{BadText}
use Rattle.decimal_text.specs.declared.fault.BadText.TheVariants as bad
use Rattle.decimal_text.specs.Readers.{EndsAs}
use Rattle.order_model.specs.declared.problem.ProblemParts.{ProblemParts}
use Rattle.order_model.specs.Costs.{cost_of, AreOrders}
use Rattle.map_method.specs.declared.claim.Claim.{Claim}
use Rattle.order_check.specs.declared.refusal.ProofItem.{ProofItem}
use Rattle.order_check.specs.declared.refusal.ProofItem.TheVariants as refused
use Rattle.order_check.specs.declared.refusal.ProofStop.TheVariants as stopped
use Rattle.order_proof.specs.Plain.{PlainProof}
use Rattle.order_check.specs.LowerBounds.{IsLowerBound}
use Rattle.cert_file.specs.declared.certificate.Certificate.{Certificate}
use Rattle.cert_file.specs.Plain.{PlainCertificate}
use Rattle.cert_file.specs.Reading.{certificate_end}
use Rattle.map_faults.specs.declared.fault.CheckItem.{CheckItem}
use Rattle.map_faults.specs.declared.fault.CheckItem.TheVariants as item
use Rattle.map_faults.specs.declared.fault.CheckFault.{CheckFault}
use Rattle.map_faults.specs.Faults.{text_stop}
use Rattle.graph_maps.specs.Problems.{problem_within}
use Rattle.graph_maps.specs.Promises.{AreBounded}
use Rattle.graph_maps.specs.Readings.{certificate_in}
use Rattle.graph_maps.specs.Checking.{first_difference, accepted_text, proof_item, unless_costlier, unless_refused, HasCause, Gives}
use Rattle.graph_maps.proofs.ReadAgain.{wrong_read}
use Rattle.graph_maps.proofs.MadeProblem.{problem_is}

-- a text that is no certificate's is refused where reading stops
pub text_refused : {A : Type 0} (gives : PlainCertificate → A) (importance : List ℕ) (choices : Choices) (claim : Claim) (graph : GraphParts) (bytes : List ℕ) (stop : BadText)
    → EndsAs (λ (c : Certificate). length bytes) (Err stop) (certificate_end bytes)
    → HasCause (accepted_text gives importance choices claim graph (certificate_in bytes)) (text_stop stop)
text_refused gives importance choices claim graph bytes (bad.At at) h = ap (accepted_text gives importance choices claim graph) (wrong_read bytes at h)
text_refused gives importance choices claim graph bytes bad.NoMemory h = tt

-- what is given of an outcome is given of an equal one
pub gives_same : {X Y : Type 0} (view : X → Y) (result : Result X CheckFault) (a b : Result Y CheckFault) → a ≡ b → Gives view result b → Gives view result a
gives_same {X} {Y} view result a b same h = subst (λ (outcome : Result Y CheckFault). Gives view result outcome) (sym same) h

-- texts that differ nowhere are one
pub no_difference : (xs ys : List ℕ) → first_difference xs ys ≡ None → xs ≡ ys
no_difference [] [] none = refl
no_difference (x ∷ xs) (y ∷ ys) none = by (x == y) refl (first_difference xs ys) (no_difference xs ys) none
  where
    by : (t : Bool) → (x == y) ≡ t → (o : Option ℕ) → (o ≡ None → xs ≡ ys) → cond t (option_map (λ at. 1 + at) o) (Some 0) ≡ None → x ∷ xs ≡ y ∷ ys
    by true same None rest h = ap (λ (z : ℕ). z ∷ xs) (eqb-true x y same) ∙ ap (λ (zs : List ℕ). y ∷ zs) (rest refl)
    by t same o rest h = absurd cc
no_difference xs ys none = absurd cc

-- what is proved of line orders in the problem that was made is proved in the graph's
pub orders_bounded : (importance : List ℕ) (choices : Choices) (graph : GraphParts) (p : ProblemParts) (orders : List (List LineId))
    (cost bound : ℕ) → problem_within importance choices graph ≡ Ok p
    → cost_of p.terms orders ≡ cost → IsLowerBound p.segs p.terms bound
    → AreBounded importance choices graph orders (record { cost = cost; bound = bound })
orders_bounded importance choices graph p orders cost bound made costs least =
    let same = problem_is importance choices graph p made in
    record {
      costs = subst (λ (q : ProblemParts). cost_of q.terms orders ≡ cost) same costs;
      bound = subst (λ (q : ProblemParts). IsLowerBound q.segs q.terms bound) same least;
    }

-- orders of a graph's segments are orders of its problem's
pub orders_fit : (importance : List ℕ) (choices : Choices) (graph : GraphParts) (p : ProblemParts) (orders : List (List LineId)) → problem_within importance choices graph ≡ Ok p
    → AreOrders graph.lines orders → AreOrders p.segs orders
orders_fit importance choices graph p orders made are = subst (λ (q : ProblemParts). AreOrders q.segs orders) (sym (problem_is importance choices graph p made)) are

-- Cost and proof.

module _ {A : Type 0} (claim : Claim) (p : ProblemParts) (orders : List (List LineId)) (cost : ℕ) (proof : PlainProof)
    (next : Result A CheckFault) (refusal : Option ProofItem) (is : proof_item claim p orders proof ≡ option_map item.Proof refusal)
    (costs : cost_of p.terms orders ≡ cost) where
  by_refusal : unless_costlier claim p orders cost proof next ≡ unless_refused (option_map item.Proof refusal) next
  by_refusal =
      ap (λ (b : Bool). unless_refused (cond b None (Some item.Cost)) (unless_refused (proof_item claim p orders proof) next))
      (eq-eqb cost (cost_of p.terms orders) (sym costs)) ∙ ap (λ (o : Option CheckItem). unless_refused o next) is
