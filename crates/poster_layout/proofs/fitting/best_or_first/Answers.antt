use Rattle.std.proofs.Common.{sym, subst, ◌∙◌}
use Rattle.poster_layout.specs.Fits.{IsPitch}
use Rattle.poster_layout.proofs.Choosing.{first_is_pitch, pitch_is, pitch_large}
use Rattle.poster_layout.proofs.fitting.best_or_first.Goals as goal

pub returns-then-not-fits-clause-pitch : goal.returns-then-not-fits-clause-pitch
returns-then-not-fits-clause-pitch c = pitch_large c.args.plan.now c.args.first.pitch c.requires.first (sym c.fits.ensures ∙ c.if-not-fits.true)

pub best_from-requires-clause-pitch : goal.best_from-requires-clause-pitch
best_from-requires-clause-pitch c = subst IsPitch (sym c.requires.first) (first_is_pitch c.args.plan.now)

pub returns-clause-pitch : goal.returns-clause-pitch
returns-clause-pitch c =
    c.in_ok-best.ensures.pitch
    ∙ pitch_is c.args.plan.now c.args.first.pitch c.args.first.full_left c.requires.first (subst IsPitch (sym c.requires.first) (first_is_pitch c.args.plan.now)) (sym c.fits.ensures ∙ c.if-not-fits.false) c.requires.laid.full

pub fits-requires : goal.fits-requires
fits-requires c = c.requires.laid

pub best_from-requires-clause-laid : goal.best_from-requires-clause-laid
best_from-requires-clause-laid c = c.requires.laid

pub returns-then-not-fits-clause-laid : goal.returns-then-not-fits-clause-laid
returns-then-not-fits-clause-laid c = c.requires.laid

pub returns-clause-laid : goal.returns-clause-laid
returns-clause-laid c = c.in_ok-best.ensures.laid
