use Rattle.std.proofs.Common.{◌≡◌, ◌∙◌, ap, ◌*◌, ◌≤◌, replicate, arith}
use Rattle.std.proofs.lemmas.Grind.{div_ceil_times}
use Rattle.bit_flags.specs.Bits.{flags_in}
use Rattle.bit_flags.proofs.Words.{none_raised}
use Rattle.bit_flags.proofs.flags.Flags.none.Goals as goal

pub returns : goal.returns
returns c =
    let enough : c.args.count ≤ 64 * c.div_ceil.result = omega (arith, div_ceil_times c.args.count 64 (omega arith)) in
    let zeros : c.in_ok-words.words.items ≡ replicate c.div_ceil.result 0 = c.in_ok-words.ensures.items_if_clones_equal (λ y e. e) in
    ap (λ words. flags_in words c.args.count) zeros ∙ none_raised c.args.count c.div_ceil.result enough
