use Rattle.std.proofs.Common.{List, ℕ, ap, sym, ◌∙◌}
use Rattle.name_widths.specs.Words.{is_common}
use Rattle.name_widths.specs.Votes.{texts_of}
use Rattle.poster_graph.proofs.texts.texts_of.Goals as goal

pub second_platforms-requires : goal.second_platforms-requires
second_platforms-requires c = λ word.
    ap (λ (ns : List (List ℕ)). is_common ns word) (sym c.in_ok-all.ensures.names ∙ ap texts_of (sym c.as_slice.ensures.value)) ∙ c.common_word-common.ensures word

pub returns-clause-texts : goal.returns-clause-texts
returns-clause-texts c = record {
  common = λ word. ap (λ (ns : List (List ℕ)). is_common ns word) (sym c.in_ok-all.ensures.names ∙ ap texts_of (sym c.as_slice.ensures.value)) ∙ c.common_word-common.ensures word;
  seconds = c.in_ok-seconds.ensures;
}
