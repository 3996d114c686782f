use Rattle.std.proofs.Common.{◌-◌, List, [], ◌∷◌, length, subst, sym}
use Rattle.order_values.specs.declared.rule.Rule.{Rule}
use Rattle.order_proof.specs.declared.proof.Part.{Part}
use Rattle.order_proof.specs.Plain.{plain_proof}
use Rattle.order_proof.specs.Trees.{HasTrees}
use Rattle.order_proof.specs.Reading.{RuleCount}
use Rattle.order_proof.specs.Readers.{IsTextOf}
use Rattle.order_proof.proofs.ReadProofs.{trees_kept}
use Rattle.order_proof.proofs.Ends.{stop_within, text_in_front}
use Rattle.order_proof.proofs.reading.read_proof.Goals as goal

pub invariant_of-result : goal.invariant_of-result
invariant_of-result c =
    subst (λ (rs : List Rule). HasTrees (plain_proof (record { rules = rs; parts = c.of-parts.result }))) (sym c.of-rules.ensures)
    (subst (λ (ps : List Part). HasTrees (plain_proof (record { rules = c.in-Ok.rules.items; parts = ps }))) (sym c.of-parts.ensures)
    (trees_kept (plain_proof (record { rules = c.in-Ok.rules.items; parts = c.in-Ok.parts.items })) c.in-Ok.ensures.proof.range))

pub returns-in-Ok-clause-proof : goal.returns-in-Ok-clause-proof
returns-in-Ok-clause-proof c =
    let used = length c.args.bytes.now - length c.in-Ok.rest.now in
    subst (λ (rs : List Rule). IsTextOf (plain_proof (record { rules = rs; parts = c.of-parts.result })) used c.args.bytes.now) (sym c.of-rules.ensures)
    (subst (λ (ps : List Part). IsTextOf (plain_proof (record { rules = c.in-Ok.rules.items; parts = ps })) used c.args.bytes.now) (sym c.of-parts.ensures)
    (text_in_front (plain_proof (record { rules = c.in-Ok.rules.items; parts = c.in-Ok.parts.items })) c.args.bytes.now c.in-Ok.rest.now c.in-Ok.ensures.proof))

pub bad_text-requires : goal.bad_text-requires
bad_text-requires c = stop_within c.in-Err.stop (RuleCount ∷ []) c.args.bytes.now c.in-Err.ensures.follows
