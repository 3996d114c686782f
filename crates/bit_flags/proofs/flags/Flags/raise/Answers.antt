use Rattle.std.proofs.Common.{◌≡◌, ◌∙◌, ap, ◌/◌, ◌%◌, ◌<◌, true, length, get_or, set, arith}
use Rattle.bit_flags.specs.Bits.{flags_in}
use Rattle.bit_flags.proofs.Words.{length-flags_in, one_flagged, with_bit}
use Rattle.std.proofs.lemmas.Grind.{get_or_default_zero}
use Rattle.bit_flags.proofs.flags.Flags.raise.Goals as goal

pub index_mut-requires : goal.index_mut-requires
index_mut-requires c = omega (arith, length-flags_in c.self.inside.words.items c.self.inside.count, ap length c.self.view_is, c.self.inside.words.ok)

pub returns : goal.returns
returns c =
    let place = c.args.place in
    let words = c.self.inside.words.items in
    let count = c.self.inside.count in
    let below : place < count = omega (arith, length-flags_in words count, ap length c.self.view_is) in
    let word_within : place / 64 < length words = omega (arith, c.self.invariant) in
    let word : c.index_mut.result.now ≡ get_or words (place / 64) 0 = c.index_mut.ensures.value ∙ get_or_default_zero words (place / 64) c.index_mut.result.now word_within in
    ap (λ n. flags_in (set words (place / 64) (with_bit true n (place % 64))) count) word ∙ one_flagged true words count place c.self.invariant below ∙ ap (λ fs. set fs place true) c.self.view_is
