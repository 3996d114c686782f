use Rattle.std.proofs.Common.{◌≡◌, sym, ◌∙◌, ap, ◌/◌, ◌%◌, ◌^◌, ◌<◌, ◌==◌, false, length, get_or, arith}
use Rattle.std.specs.Prelude.{bit_and}
use Rattle.bit_flags.proofs.Words.{length-flags_in, flag_at, bit_read}
use Rattle.std.proofs.lemmas.Grind.{get_or_default_zero}
use Rattle.bit_flags.proofs.flags.Flags.is_raised.Goals as goal

pub index-requires : goal.index-requires
index-requires c = omega (arith, length-flags_in c.self.inside.words.items c.self.inside.count, ap length c.self.view_is, c.self.inside.words.ok)

pub returns : goal.returns
returns c =
    let place = c.args.place in
    let words = c.self.inside.words.items in
    let below : place < c.self.inside.count = omega (arith, length-flags_in words c.self.inside.count, ap length c.self.view_is) in
    let word_within : place / 64 < length words = omega (arith, c.self.invariant) in
    let word : c.index.result.now ≡ get_or words (place / 64) 0 = c.index.ensures ∙ get_or_default_zero words (place / 64) c.index.result.now word_within in
    ap (λ n. bit_and (n / 2 ^ (place % 64)) 1 == 1) word ∙ bit_read words place ∙ sym (flag_at words c.self.inside.count place below) ∙ ap (λ fs. get_or fs place false) c.self.view_is
