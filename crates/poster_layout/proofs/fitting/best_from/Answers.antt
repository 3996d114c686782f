use Rattle.std.proofs.Common.{◌≡◌, ℕ, ◌+◌, true, false, refl, ap, sym, ◌∙◌}
use Rattle.poster_plan.specs.Pitches.{better_of, fits, full_left}
use Rattle.poster_layout.specs.Fits.{best_of}
use Rattle.poster_layout.proofs.Choosing.{best_large, best_last, best_more, next_fits, next_nearer, next_pitch, next_small, number_low}
use Rattle.poster_layout.proofs.fitting.best_from.Goals as goal

pub loop-alloc-init : goal.loop-alloc-init
loop-alloc-init c = record { laid = c.requires.laid; pitch = c.requires.pitch; left = c.requires.laid.full; whole = refl }

pub lay_out-requires : goal.lay_out-requires
lay_out-requires c = next_small c.loop-alloc.pitch c.loop-alloc.invariant.pitch (c.goes_on.ensures.on c.loop-alloc-test.true).1

pub loop-alloc-preserved : goal.loop-alloc-preserved
loop-alloc-preserved c =
    let plan = c.args.plan.now in
    let u = c.loop-alloc.pitch in
    let best = c.loop-alloc.best.pitch in
    let is = c.loop-alloc.invariant.pitch in
    let on = c.goes_on.ensures.on c.loop-alloc-test.true in
    let next : c.in_ok-laid.laid.pitch ≡ u + 4 = c.in_ok-laid.ensures.pitch in
    let fit : fits plan (u + 4) ≡ true = ap (fits plan) (sym next) ∙ sym c.fits.ensures ∙ c.if-not-fits.false in
    let count : c.in_ok-laid.laid.full_left ≡ full_left (u + 4) plan = c.in_ok-laid.ensures.laid.full ∙ ap (λ (v : ℕ). full_left v plan) next in
    let better : c.better_of-best.result.pitch ≡ better_of plan best (u + 4) = c.better_of-best.ensures.pitch ∙ ap (better_of plan best) next in
    record {
      laid = c.better_of-best.ensures.laid;
      pitch = next_pitch u is on.1;
      left = count;
      whole =
          ap (λ (v : ℕ). best_of plan v c.in_ok-laid.laid.full_left (u + 4)) better
          ∙ ap (λ (n : ℕ). best_of plan (better_of plan best (u + 4)) n (u + 4)) count
          ∙ best_more plan best c.loop-alloc.left u is.0 is.2 (number_low u is on.1) on.0 fit
          ∙ c.loop-alloc.invariant.whole;
    }

pub returns-then-not-fits-clause-pitch : goal.returns-then-not-fits-clause-pitch
returns-then-not-fits-clause-pitch c =
    let plan = c.args.plan.now in
    let u = c.loop-alloc.pitch in
    let is = c.loop-alloc.invariant.pitch in
    let on = c.goes_on.ensures.on c.loop-alloc-test.true in
    best_large plan c.loop-alloc.best.pitch c.loop-alloc.left u is.0 is.2 (number_low u is on.1) on.0 (ap (fits plan) (sym c.in_ok-laid.ensures.pitch) ∙ sym c.fits.ensures ∙ c.if-not-fits.true)
    ∙ c.loop-alloc.invariant.whole

pub returns-clause-pitch : goal.returns-clause-pitch
returns-clause-pitch c =
    best_last c.args.plan.now c.loop-alloc.best.pitch c.loop-alloc.left c.loop-alloc.pitch c.loop-alloc.invariant.pitch (c.goes_on.ensures.off c.loop-alloc-test.false)
    ∙ c.loop-alloc.invariant.whole

pub overflow_add-pitch : goal.overflow_add-pitch
overflow_add-pitch c = next_fits c.loop-alloc.pitch (c.goes_on.ensures.on c.loop-alloc-test.true).1

pub loop-alloc-smaller : goal.loop-alloc-smaller
loop-alloc-smaller c = next_nearer c.loop-alloc.pitch (c.goes_on.ensures.on c.loop-alloc-test.true).1

pub fits-requires : goal.fits-requires
fits-requires c = c.in_ok-laid.ensures.laid

pub better_of-best-requires-clause-best : goal.better_of-best-requires-clause-best
better_of-best-requires-clause-best c = c.loop-alloc.invariant.laid

pub better_of-best-requires-clause-laid : goal.better_of-best-requires-clause-laid
better_of-best-requires-clause-laid c = c.in_ok-laid.ensures.laid

pub returns-then-not-fits-clause-laid : goal.returns-then-not-fits-clause-laid
returns-then-not-fits-clause-laid c = c.loop-alloc.invariant.laid

pub returns-clause-laid : goal.returns-clause-laid
returns-clause-laid c = c.loop-alloc.invariant.laid
