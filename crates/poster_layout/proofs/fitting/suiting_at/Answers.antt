use Rattle.std.proofs.Common.{ℕ, ◌*◌, Bool, true, false, ◌&&◌, length, ap, sym, ◌∙◌}
use Rattle.std.specs.Prelude.{nat_le}
use Rattle.poster_plan.specs.Placing.{named}
use Rattle.poster_plan.specs.Pitches.{full_left, small_left}
use Rattle.poster_layout.proofs.Choosing.{suits_is}
use Rattle.poster_layout.proofs.fitting.suiting_at.Goals as goal

pub returns-then-not-roomy : goal.returns-then-not-roomy
returns-then-not-roomy c =
    let u = c.args.pitch in
    let plan = c.args.plan.now in
    ap (λ (b : Bool). b && nat_le (10 * full_left u plan) (length (named plan.marks)) && nat_le (30 * small_left u plan) (length (named plan.marks))) (sym c.in_ok-roomy.ensures ∙ c.if-not-roomy.true)

pub returns-then-not-suits : goal.returns-then-not-suits
returns-then-not-suits c =
    let u = c.args.pitch in
    let plan = c.args.plan.now in
    let laid = c.in_ok-laid.ensures in
    sym (suits_is plan u c.in_ok-laid.laid.full_left c.in_ok-laid.laid.small_left c.args.names (sym c.in_ok-roomy.ensures ∙ c.if-not-roomy.false)
    (laid.laid.full ∙ ap (λ (v : ℕ). full_left v plan) laid.pitch) (laid.laid.small ∙ ap (λ (v : ℕ). small_left v plan) laid.pitch) c.requires.names)
    ∙ sym c.suits.ensures ∙ c.if-not-suits.true

pub returns : goal.returns
returns c =
    let u = c.args.pitch in
    let plan = c.args.plan.now in
    let laid = c.in_ok-laid.ensures in (
      laid.laid,
      laid.pitch,
      sym (suits_is plan u c.in_ok-laid.laid.full_left c.in_ok-laid.laid.small_left c.args.names (sym c.in_ok-roomy.ensures ∙ c.if-not-roomy.false)
          (laid.laid.full ∙ ap (λ (v : ℕ). full_left v plan) laid.pitch) (laid.laid.small ∙ ap (λ (v : ℕ). small_left v plan) laid.pitch) c.requires.names)
          ∙ sym c.suits.ensures ∙ c.if-not-suits.false,
    )
