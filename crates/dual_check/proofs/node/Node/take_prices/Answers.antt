use Rattle.std.proofs.Common.{List, ◌∙◌, ◌++◌, ap, refl, subst, arith, ℕ, ℤ}
use Rattle.std.specs.Vec.{with_items}
use Rattle.std.proofs.lemmas.List.{with_items_is}
use Rattle.dual_check.specs.declared.node.KnownShare.{KnownShare}
use Rattle.dual_check.specs.Nodes.{Forgets, ArePricedOff}
use Rattle.dual_check.proofs.NodeSteps.{node_priced}
use Rattle.dual_check.proofs.node.Node.take_prices.Goals as goal

pub returns-clause-node : goal.returns-clause-node
returns-clause-node c =
    let one = with_items_is c.args.self.now.shares c.forget_priced.new.shares (omega arith) in
    let two = with_items_is (with_items c.args.self.now.shares c.forget_priced.new.shares) c.forget_priced-2.new.shares (omega arith) in
    node_priced c.args.asked.now c.args.self.now _ c.args.prices.now c.forget_priced.new.shares c.forget_priced-2.new.shares c.requires.node c.requires.prices
    (subst (λ (l : List KnownShare). Forgets l c.forget_priced.new.shares) c.as_mut_slice.ensures.value c.forget_priced.ensures.fewer)
    (subst (λ (l : List (ℕ × ℤ)). ArePricedOff c.args.asked.now l c.forget_priced.new.shares) c.as_slice.ensures.value c.forget_priced.ensures.off)
    (subst (λ (l : List KnownShare). Forgets l c.forget_priced-2.new.shares) (c.as_mut_slice-2.ensures.value ∙ one) c.forget_priced-2.ensures.fewer) c.forget_priced-2.ensures.off
    (omega arith) refl (c.in_ok-extend_from_slice.ensures.items ∙ ap (λ (l : List (ℕ × ℤ)). l ++ c.args.prices.now) c.clear.ensures.items) two
