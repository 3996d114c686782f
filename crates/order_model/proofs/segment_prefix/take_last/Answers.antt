use Rattle.std.proofs.Common.{◌≡◌, ◌-◌, ◌<◌, ◌≤◌, ap, subst, sym, length, vec_len, arith}
use Rattle.std.proofs.lemmas.List.{length-take-le}
use Rattle.order_model.specs.Prefixes.{first_placed, AreApart}
use Rattle.order_model.proofs.PrefixLemmas.{apart_take, two_where_chosen}
use Rattle.order_model.proofs.segment_prefix.take_last.Goals as goal

pub take_one-requires-then-both-clause-apart : goal.take_one-requires-then-both-clause-apart
take_one-requires-then-both-clause-apart c =
    subst AreApart (sym c.take_one.ensures.items) (apart_take _ c.args.placed.now.items c.requires.fits.apart)

pub take_one-requires-then-both-clause-some : goal.take_one-requires-then-both-clause-some
take_one-requires-then-both-clause-some c =
    let whole : c.len.result ≡ length c.args.lines.now = c.if-both.true in
    let chosen : length (first_placed c.args.lines.now) < length c.args.placed.now.items = omega (arith, c.requires.some, c.args.placed.now.ok.0) in
    let two : 2 ≤ length c.args.lines.now = two_where_chosen c.args.lines.now c.args.placed.now.items c.requires.rising c.requires.fits chosen in
    omega (
      arith,
      whole,
      two,
      c.len.ensures,
      c.args.placed.now.ok.0,
      c.take_one.new.placed.ok.0,
      ap length c.take_one.ensures.items,
      length-take-le (vec_len c.args.placed.now - 1) c.args.placed.now.items (omega (arith, c.args.placed.now.ok.0)),
    )
