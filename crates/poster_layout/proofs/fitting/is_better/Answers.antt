use Rattle.std.proofs.Common.{ℕ, ◌==◌, ◌&&◌, ◌||◌, ap, ◌∙◌}
use Rattle.std.specs.Prelude.{nat_lt}
use Rattle.poster_plan.specs.Pitches.{full_left, small_left}
use Rattle.poster_layout.proofs.fitting.is_better.Goals as goal

pub returns : goal.returns
returns c = λ plan h k.
    let a = c.args.laid.now in
    let b = c.args.best.now in
    c.is_before.ensures
    ∙ ap (λ (n : ℕ). nat_lt n b.small_left || (n == b.small_left) && nat_lt a.full_left b.full_left) h.small
    ∙ ap (λ (n : ℕ). nat_lt (small_left a.pitch plan) n || (small_left a.pitch plan == n) && nat_lt a.full_left b.full_left) k.small
    ∙ ap (λ (n : ℕ). nat_lt (small_left a.pitch plan) (small_left b.pitch plan) || (small_left a.pitch plan == small_left b.pitch plan) && nat_lt n b.full_left) h.full
    ∙ ap (λ (n : ℕ). nat_lt (small_left a.pitch plan) (small_left b.pitch plan) || (small_left a.pitch plan == small_left b.pitch plan) && nat_lt (full_left a.pitch plan) n) k.full
