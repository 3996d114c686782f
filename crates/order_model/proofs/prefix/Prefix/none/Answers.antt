use Rattle.std.proofs.Common.{◌≡◌, ◌∙◌, map, ap, arith}
use Rattle.std.proofs.lemmas.List.{take_all}
use Rattle.order_model.specs.Prefixes.{unchosen}
use Rattle.order_model.proofs.PrefixMemory.{none_is, none_fits}
use Rattle.order_model.proofs.prefix.Prefix.none.Goals as goal

pub returns-clause-placed : goal.returns-clause-placed
returns-clause-placed c =
    let whole : c.loop-lines.parts.items ≡ map unchosen c.args.problem.now.segs =
    c.loop-lines.invariant ∙ ap (map unchosen) (take_all c.loop-lines.lines-index c.segs-segs.result.now (omega arith) ∙ c.segs-segs.ensures.lists) in
    none_is c.args.problem.now.segs c.loop-lines.parts.items whole

pub returns-clause-fits : goal.returns-clause-fits
returns-clause-fits c =
    let whole : c.loop-lines.parts.items ≡ map unchosen c.args.problem.now.segs =
    c.loop-lines.invariant ∙ ap (map unchosen) (take_all c.loop-lines.lines-index c.segs-segs.result.now (omega arith) ∙ c.segs-segs.ensures.lists) in
    none_fits c.args.problem.now.segs c.loop-lines.parts.items c.segs-segs.ensures.fits.rising whole
