use Rattle.std.proofs.Common.{◌≡◌, ◌∙◌, sym, ap, ℕ, ◌+◌, ◌<◌, Bool, true, false, eqb, ◌||◌, List, length, drop, get_or}
use Rattle.std.proofs.lemmas.Bool.{eq-eqb, ne_eqb}
use Rattle.std.proofs.lemmas.List.{at_drop_all, at_drop_more}
use Rattle.map_base.specs.declared.ids.NodeId.{NodeId}
use Rattle.run_laying.specs.Attempts.{has_node}
use Rattle.kept_walks.proofs.runs.has_node.Goals as goal

abbrev none : NodeId
none = record { 0 = 0 }

next : (ms : List NodeId) (k i : ℕ) (b : Bool) → i < length ms → eqb (get_or ms i none).0 k ≡ b → has_node (drop i ms) k ≡ (b || has_node (drop (i + 1) ms) k)
next ms k i b h is = at_drop_more (λ (xs : List NodeId). has_node xs k) ms i none h ∙ ap (λ t. t || has_node (drop (i + 1) ms) k) is

pub returns-then-m-n : goal.returns-then-m-n
returns-then-m-n c =
    let ms = c.args.nodes.now in
    let i = c.loop-m.m-index in
    sym (next ms c.args.n.0 i true c.loop-m-test.true (eq-eqb (get_or ms i none).0 c.args.n.0 c.if-m-n.true)) ∙ c.loop-m.invariant

pub loop-m-preserved : goal.loop-m-preserved
loop-m-preserved c =
    let ms = c.args.nodes.now in
    let i = c.loop-m.m-index in
    sym (next ms c.args.n.0 i false c.loop-m-test.true (ne_eqb (get_or ms i none).0 c.args.n.0 c.if-m-n.false)) ∙ c.loop-m.invariant

pub returns : goal.returns
returns c = sym (at_drop_all (λ (xs : List NodeId). has_node xs c.args.n.0) c.args.nodes.now c.loop-m.m-index c.loop-m-test.false) ∙ c.loop-m.invariant
