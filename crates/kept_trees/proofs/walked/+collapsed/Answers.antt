use Rattle.std.proofs.Common.{◌≡◌, ℤ, w64, to_z, of_z, Some, rules, sym, ◌∙◌, ap}
use Rattle.dual_bound.specs.Accepting.{shows}
use Rattle.std.proofs.lemmas.Int.{to_z-of_z}
use Rattle.order_values.specs.DualTrees.{plain_dual}
use Rattle.dual_ascent.specs.DualResults.{collapsed}
use Rattle.kept_trees.specs.declared.walked.WalkedTree.{WalkedTree}
use Rattle.kept_trees.specs.Searching.{plain_walked}
use Rattle.kept_trees.proofs.Walking.{collapsed_shown, collapsed_forks}
use Rattle.kept_trees.proofs.walked.+collapsed.Goals as goal

pub returns-then-shows : goal.returns-then-shows
returns-then-shows t c =
    let same : to_z w64 (of_z w64 c.in-Forked.value)
    ≡ c.in-Forked.value = to_z-of_z w64 c.in-Forked.value (search rules) in
    collapsed_shown c.args.target c.in-Forked.value c.in-Forked.prices c.in-Forked.seg c.in-Forked.a c.in-Forked.b
    (plain_walked c.in-Forked.first.value) (plain_walked c.in-Forked.second.value)
    (c.if-shows.ensures ∙ ap (λ (v : ℤ). shows c.args.target (Some v)) same)
    ∙ ap (λ (u : WalkedTree). collapsed c.args.target (plain_walked u)) (sym c.in-Forked.is)

pub returns-in-Stopped : goal.returns-in-Stopped
returns-in-Stopped t c = ap (λ (u : WalkedTree). collapsed c.args.target (plain_walked u)) (sym c.in-Stopped.is)

pub returns-in_ok-new-in-Forked-2 : goal.returns-in_ok-new-in-Forked-2
returns-in_ok-new-in-Forked-2 t c =
    let same : to_z w64 (of_z w64 c.in-Forked.value)
    ≡ c.in-Forked.value = to_z-of_z w64 c.in-Forked.value (search rules) in
    let first : plain_dual c.in_ok-new-in-Forked.field-0.value
    ≡ collapsed c.args.target (plain_walked c.in-Forked.first.value) =
    ap plain_dual c.in_ok-new-in-Forked.ensures.ok
    ∙ (c.in_ok-first-in-Forked.ensures
    ∙ ap (λ (u : WalkedTree). collapsed c.args.target (plain_walked u)) c.into_inner.ensures) in
    let second : plain_dual c.in_ok-new-in-Forked-2.field-0.value
    ≡ collapsed c.args.target (plain_walked c.in-Forked.second.value) =
    ap plain_dual c.in_ok-new-in-Forked-2.ensures.ok
    ∙ (c.in_ok-second-in-Forked.ensures
    ∙ ap (λ (u : WalkedTree). collapsed c.args.target (plain_walked u)) c.into_inner-in-Forked.ensures) in
    collapsed_forks c.args.target c.in-Forked.value c.in-Forked.prices c.in-Forked.seg c.in-Forked.a c.in-Forked.b
    (plain_walked c.in-Forked.first.value) (plain_walked c.in-Forked.second.value)
    (plain_dual c.in_ok-new-in-Forked.field-0.value) (plain_dual c.in_ok-new-in-Forked-2.field-0.value)
    (c.if-shows.ensures ∙ ap (λ (v : ℤ). shows c.args.target (Some v)) same) first second
    ∙ ap (λ (u : WalkedTree). collapsed c.args.target (plain_walked u)) (sym c.in-Forked.is)
