use Rattle.std.proofs.Common.{◌∙◌, sym, subst, ℕ, List}
use Rattle.map_engine.specs.Promises.{IsCertified, ShowsLineGraph}
use Rattle.graph_maps.proofs.CheckSteps.{no_difference}
use Rattle.map_engine.proofs.checking.check.Goals as goal

pub returns-in-None-clause-certified : goal.returns-in-None-clause-certified
returns-in-None-clause-certified c =
    let same = sym c.as_slice.ensures.value
    ∙ no_difference c.as_slice.result.now c.args.svg.now (sym c.first_difference.ensures ∙ c.in-None.is) in
    subst (λ (svg : List ℕ). IsCertified c.args.tables.now c.args.settings.now c.args.claim svg c.args.certificate.now
    c.in_ok-checked.checked.proved) same c.in_ok-checked.ensures.certified

pub returns-in-None-clause-shown : goal.returns-in-None-clause-shown
returns-in-None-clause-shown c =
    let same = sym c.as_slice.ensures.value
    ∙ no_difference c.as_slice.result.now c.args.svg.now (sym c.first_difference.ensures ∙ c.in-None.is) in
    subst (λ (svg : List ℕ). ShowsLineGraph c.args.tables.now c.args.settings.now c.args.claim svg
    c.in_ok-checked.checked.proved) same c.in_ok-checked.ensures.shown
