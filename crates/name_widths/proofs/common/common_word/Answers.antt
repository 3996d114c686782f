use Rattle.std.proofs.Common.{arith}
use Rattle.name_widths.proofs.Voting.{common_is, none_is_common}
use Rattle.name_widths.proofs.common.common_word.Goals as goal

pub returns-then-names-count_with : goal.returns-then-names-count_with
returns-then-names-count_with c = λ word. common_is c.args.names.now c.leading_word-word.result.now word c.leading_word-word.ensures (omega (arith, c.count_with.ensures))

pub returns-else-names-count_with : goal.returns-else-names-count_with
returns-else-names-count_with c = λ word. none_is_common c.args.names.now c.leading_word-word.result.now word c.leading_word-word.ensures (omega (arith, c.count_with.ensures))
