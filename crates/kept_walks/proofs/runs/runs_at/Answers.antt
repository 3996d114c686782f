use Rattle.std.proofs.Common.{◌≡◌, refl, sym, ◌∙◌, ap, Bool, true, false, cond, List, [], ◌∷◌, ◌++◌, append-nil, filter, take}
use Rattle.std.proofs.lemmas.List.{take_all}
use Rattle.std.proofs.lemmas.List.Elements.{filter_more}
use Rattle.line_chains.specs.declared.chain.Chain.{Chain}
use Rattle.kept_walks.specs.Straightening.{ends_at}
use Rattle.kept_walks.proofs.runs.runs_at.Goals as goal

kept : (b : Bool) (cs : List Chain) (c : Chain) → cond b (cs ++ c ∷ []) cs ≡ cs ++ cond b (c ∷ []) []
kept true cs c = refl
kept false cs c = sym (append-nil cs)

pub loop-run-preserved : goal.loop-run-preserved
loop-run-preserved c =
    let rs = c.args.runs.now in
    let test = ends_at c.args.nodes.now in
    let i = c.loop-run.run-index in
    let r = c.run-item.result in
    c.in_ok-push_if_at.ensures
    ∙ ap (λ (v : List Chain). cond (test r) (v ++ r ∷ []) v) c.loop-run.invariant
    ∙ kept (test r) (filter test (take i rs)) r
    ∙ ap (λ (x : Chain). filter test (take i rs) ++ cond (test x) (x ∷ []) []) c.run-item.is
    ∙ sym (filter_more test rs i r c.loop-run-test.true)

pub returns : goal.returns
returns c = c.loop-run.invariant ∙ ap (filter (ends_at c.args.nodes.now)) (take_all c.loop-run.run-index c.args.runs.now c.loop-run-test.false)
