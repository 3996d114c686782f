use Rattle.std.proofs.Common.{sym, ◌∙◌, ap, length}
use Rattle.bit_flags.proofs.Words.{length-flags_in}
use Rattle.bit_flags.proofs.flags.Flags.len.Goals as goal

pub returns : goal.returns
returns c = sym (length-flags_in c.self.inside.words.items c.self.inside.count) ∙ ap length c.self.view_is
