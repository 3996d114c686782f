use Rattle.std.proofs.Common.{◌≡◌, ◌∙◌, ℕ, ◌+◌, ◌<◌, Bool, true, false, List, length, get_or, ap, subst, sym, ◌⊎◌, inl, inr, arith}
use Rattle.std.proofs.lemmas.Bool.{cases_eq}
use Rattle.std.proofs.lemmas.List.{get_or-set_same, get_or-set_other, length-set, length-replicate}
use Rattle.std.specs.Prelude.{slice_set}
use Rattle.kept_walks.proofs.moving.all_raised.Goals as goal

-- one more is raised
raised_more : (flags : List Bool) (n : ℕ) → n < length flags → ((k : ℕ) → k < n → get_or flags k false ≡ true) → (k : ℕ) → k < n + 1 → get_or (slice_set flags n true) k false ≡ true
raised_more flags n below before k h = elim (cases_eq k n) [
  | inl same ↦ ap (λ m. get_or (slice_set flags n true) m false) same ∙ get_or-set_same flags n true false below
  | inr other ↦ get_or-set_other flags n k true false other ∙ before k (omega (arith, h, other))
]

pub loop-n-init : goal.loop-n-init
loop-n-init c = record {
  each = ap length c.in_ok-flags.ensures ∙ length-replicate c.args.count false;
  raised = λ k h. absurd (omega (arith, h));
}

pub loop-n-preserved : goal.loop-n-preserved
loop-n-preserved c =
    let flags = c.loop-n.flags in
    let n = c.loop-n.n in
    let below : n < length flags = omega (arith, c.loop-n.invariant.each, c.loop-n-test.true) in
    record {
      each = ap length c.raise.ensures ∙ length-set flags n true ∙ c.loop-n.invariant.each;
      raised = λ k h. ap (λ (fs : List Bool). get_or fs k false) c.raise.ensures ∙ raised_more flags n below c.loop-n.invariant.raised k h;
    }

pub returns-clause-raised : goal.returns-clause-raised
returns-clause-raised c = λ k h. c.loop-n.invariant.raised k (omega (arith, h, c.loop-n-test.false))
