use Rattle.std.proofs.Common.{ℕ, subst, sym, ◌∙◌}
use Rattle.std.proofs.lemmas.Slice.Eq.{bytes_eq-Decides}
use Rattle.name_widths.specs.Votes.{IsVote}
use Rattle.name_widths.proofs.Voting.{vote_for_it, vote_for_new}
use Rattle.name_widths.proofs.common.with_vote.Goals as goal

pub returns-then-vote-eq0-clause-vote : goal.returns-then-vote-eq0-clause-vote
returns-then-vote-eq0-clause-vote c = λ names h.
    vote_for_new names c.args.name.now c.args.vote.word.now _ c.in-Some.ensures (subst (λ (n : ℕ). IsVote names c.args.vote.word.now n) c.if-vote-eq0.true h)

pub returns-then-eq-clause-vote : goal.returns-then-eq-clause-vote
returns-then-eq-clause-vote c = λ names h.
    vote_for_it names c.args.name.now c.args.vote.word.now c.args.vote.lead _ c.in-Some.ensures ((bytes_eq-Decides _ _).0 (sym c.eq.ensures ∙ c.if-eq.true)) h
