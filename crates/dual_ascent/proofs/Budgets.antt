-- A search counts no more branch nodes than its budget, and where it comes to its end, each budget of at least these gives the
-- same.
use Rattle.std.proofs.Common.{◌≡◌, ℕ, zero, suc, ◌+◌, ◌≤◌, Bool, true, false, cond, List, [], Option, Some, None, refl, sym, ◌∙◌, ap, subst, arith, true≢false}
use Rattle.std.specs.Prelude.{ℤ, nat_lt, int_lt, ◌==◌, ◌||◌}
use Rattle.std.proofs.lemmas.Bool.Decides.{nat_tests}
use Rattle.map_base.specs.declared.ids.LineId.{LineId}
use Rattle.order_model.specs.declared.problem.ProblemParts.{ProblemParts}
use Rattle.dual_bound.specs.declared.settled.SettledPair.{SettledPair}
use Rattle.dual_bound.specs.Settled.{with_pair}
use Rattle.dual_bound.specs.Accepting.{load_of}
use Rattle.dual_ascent.specs.OwnNumbers.{all_segments, zeros, listed}
use Rattle.dual_ascent.specs.LocalSearch.{Incumbent}
use Rattle.dual_ascent.specs.DualSteps.{answers, value_with}
use Rattle.dual_ascent.specs.Rounds.{Search, LowerBound, Ascent, Stage, going, over, spent, onward, with_value, answered, one_round, rounds, closed, first_ascent, ascended, is_shown}
use Rattle.dual_ascent.specs.OpenPairs.{OpenPair, next_pair, ahead, behind}
use Rattle.dual_ascent.specs.Walks.{WalkedTree, stopped, Progress, Walked, whole, cut, Below, progress, at_pair, at_open, at_node, after_first, after_second, after_rounds, walked}
use Rattle.dual_ascent.specs.DualResults.{dual_result, result_after, root_bound, most_forks, root_rounds, first_progress}
use Rattle.dual_ascent.proofs.Stages.{StageHas, onward_has, closed_has, answers_have, Keeps, with_averages, rounds_have}

module _ (p : ProblemParts) where
  -- the search of this part with a budget
  abbrev within : ℕ → Search
  within budget = record { problem = p; budget = budget }

  abbrev load : ℕ
  load = load_of p.segs (all_segments p)

  -- Branch nodes rise by the load with each round.

  abbrev Counts : (ℕ → Type 0) → Ascent → Type 0
  Counts P a = P a.branches

  value_counts : (P : ℕ → Type 0) (value : ℤ) (a : Ascent) → P a.branches → P (with_value value a).branches
  value_counts P value a h = by_test (a.round == 1 || int_lt a.bound.value value)
    where
      by_test : (t : Bool) → P (cond t (record a { bound = record { value = value; prices = a.prices }; stale = 0 }) (record a { stale = a.stale + 1 })).branches
      by_test true = h
      by_test false = h

  keeps_count : (q : Search) (settled : List SettledPair) (P : ℕ → Type 0) (orders : List (List LineId)) → Keeps q settled (Counts P) orders
  keeps_count q settled P orders = record {
    directions = λ a h. h;
    offer = λ a h. h;
    averaged = λ a h. h;
    step = λ a h. h;
    prices = λ value a h. h;
  }

  answered_counts : (q : Search) (settled : List SettledPair) (P : ℕ → Type 0) (Q : Ascent → Type 0) (a : Ascent) → P a.branches → StageHas (Counts P) Q (answered q settled a)
  answered_counts q settled P Q a h =
      let orders = answers q.problem settled a.prices in
      let value = value_with q.problem a.prices orders in
      answers_have q settled (Counts P) Q orders value (keeps_count q settled P orders) a (value_counts P value (with_averages q orders a) h)

  -- a round that the budget allows
  round_counts : (budget : ℕ) (settled : List SettledPair) (P : ℕ → Type 0) (Q : Ascent → Type 0) (a : Ascent) → (a.branches + load ≤ budget → P (a.branches + load)) → Q a
      → StageHas (Counts P) Q (one_round (within budget) settled a)
  round_counts budget settled P Q a h k = by_test (nat_lt budget (a.branches + load)) refl
    where
      most : nat_lt budget (a.branches + load) ≡ false → a.branches + load ≤ budget
      most e = grind (arith, nat_tests)

      by_test : (t : Bool) → nat_lt budget (a.branches + load) ≡ t
          → StageHas (Counts P) Q (onward (cond t (spent a) (going (record a { round = a.round + 1; branches = a.branches + load }))) (answered (within budget) settled))
      by_test true e = k
      by_test false e = answered_counts (within budget) settled P Q (record a { round = a.round + 1; branches = a.branches + load }) (h (most e))

  -- from so many, no more than the budget
  abbrev Between : ℕ → ℕ → ℕ → Type 0
  Between least most n = (least ≤ n) × (n ≤ most)

  rounds_between : (budget least : ℕ) (settled : List SettledPair) (n : ℕ) (a : Ascent) → Between least budget a.branches
      → StageHas (Counts (Between least budget)) (Counts (Between least budget)) (rounds (within budget) settled n a)
  rounds_between budget least settled zero a h = h
  rounds_between budget least settled (suc n) a h =
      onward_has (Counts (Between least budget)) (Counts (Between least budget)) (one_round (within budget) settled a) (rounds (within budget) settled n)
      (round_counts budget settled (Between least budget) (Counts (Between least budget)) a (λ below. (omega (arith, h.0), below)) h)
      (λ b k. rounds_between budget least settled n b k)

  ascent_between : (budget : ℕ) (settled : List SettledPair) (most : ℕ) (prices : List ℤ) (best : Incumbent) (branches : ℕ) → branches ≤ budget
      → StageHas (Counts (Between branches budget)) (Counts (Between branches budget)) (ascended (within budget) settled most prices best branches)
  ascent_between budget settled most prices best branches h =
      closed_has (within budget) settled (Counts (Between branches budget)) (Counts (Between branches budget)) (λ a k. k) (rounds (within budget) settled most (first_ascent (within budget) prices best branches))
      (rounds_between budget branches settled most (first_ascent (within budget) prices best branches) (omega (arith), h))

  -- the rounds of a node count at least one round
  pub ascent_counts : (budget : ℕ) (settled : List SettledPair) (most : ℕ) (prices : List ℤ) (best : Incumbent) (branches : ℕ)
      → StageHas (λ a. branches + load ≤ a.branches) (λ a. Unit {0}) (ascended (within budget) settled (suc most) prices best branches)
  ascent_counts budget settled most prices best branches =
      closed_has (within budget) settled (λ a. branches + load ≤ a.branches) (λ a. Unit {0}) (λ a k. k) (rounds (within budget) settled (suc most) (first_ascent (within budget) prices best branches))
      (rounds_have (within budget) settled (λ a. branches ≤ a.branches) (λ a. branches + load ≤ a.branches) (λ a. Unit {0})
      (λ a h. round_counts budget settled (λ n. branches + load ≤ n) (λ x. Unit {0}) a (λ k. omega (arith, h)) tt) (λ a h. omega (arith, h)) most (first_ascent (within budget) prices best branches) (omega (arith)))

  -- The same rounds with another budget, where that allows what they count.

  -- they are not spent, and count at most so many
  abbrev Fits : ℕ → Stage → Type 0
  Fits most s = StageHas (λ a. a.branches ≤ most) (λ a. ⊥) s

  same_round : (b c : ℕ) (settled : List SettledPair) (a : Ascent) → Fits c (one_round (within b) settled a) → one_round (within c) settled a ≡ one_round (within b) settled a
  same_round b c settled a fits = by_tests (nat_lt b (a.branches + load)) refl (nat_lt c (a.branches + load)) refl fits
    where
      next : Ascent
      next = record a { round = a.round + 1; branches = a.branches + load }

      too_many : (n m : ℕ) → nat_lt m n ≡ true → n ≤ m → ⊥
      too_many n m e h = grind (arith, nat_tests)

      one_count : (s : Stage) → StageHas (λ x. x.branches ≡ a.branches + load) (λ x. ⊥) s → Fits c s → a.branches + load ≤ c
      one_count (going x) e h = omega (arith, e, h)
      one_count (over x) e h = omega (arith, e, h)
      one_count (spent x) e h = absurd e

      by_tests : (t : Bool) → nat_lt b (a.branches + load) ≡ t → (u : Bool) → nat_lt c (a.branches + load) ≡ u
          → Fits c (onward (cond t (spent a) (going (record a { round = a.round + 1; branches = a.branches + load }))) (answered (within b) settled))
          → onward (cond u (spent a) (going (record a { round = a.round + 1; branches = a.branches + load }))) (answered (within c) settled)
          ≡ onward (cond t (spent a) (going (record a { round = a.round + 1; branches = a.branches + load }))) (answered (within b) settled)
      by_tests true e u f h = absurd h
      by_tests false e true f h =
          absurd (too_many (a.branches + load) c f
          (one_count (answered (within b) settled (record a { round = a.round + 1; branches = a.branches + load }))
          (answered_counts (within b) settled (λ n. n ≡ a.branches + load) (λ x. ⊥) (record a { round = a.round + 1; branches = a.branches + load }) refl) h))
      by_tests false e false f h = refl

  same_rounds : (b c : ℕ) (settled : List SettledPair) (n : ℕ) (a : Ascent) → a.branches ≤ b → Fits c (rounds (within b) settled n a) → rounds (within c) settled n a ≡ rounds (within b) settled n a
  same_rounds b c settled zero a below fits = refl
  same_rounds b c settled (suc n) a below fits =
      by_stage (one_round (within b) settled a) refl (round_counts b settled (λ k. k ≤ b) (λ x. Unit {0}) a (λ h. h) tt) fits (λ x k h. same_rounds b c settled n x k h)
    where
      by_stage : (s : Stage) → one_round (within b) settled a ≡ s → StageHas (λ x. x.branches ≤ b) (λ x. Unit {0}) s → Fits c (onward s (rounds (within b) settled n))
          → ((x : Ascent) → x.branches ≤ b → Fits c (rounds (within b) settled n x) → rounds (within c) settled n x ≡ rounds (within b) settled n x)
          → onward (one_round (within c) settled a) (rounds (within c) settled n) ≡ onward s (rounds (within b) settled n)
      by_stage (spent x) e k h more = absurd h
      by_stage (over x) e k h more =
          ap (λ s. onward s (rounds (within c) settled n)) (same_round b c settled a (subst (Fits c) (sym e) h) ∙ e)
      by_stage (going x) e k h more =
          let grown = rounds_between b x.branches settled n x (omega (arith), k) in
          let here = start_fits (rounds (within b) settled n x) grown h in
          ap (λ s. onward s (rounds (within c) settled n)) (same_round b c settled a (subst (Fits c) (sym e) here) ∙ e) ∙ more x k h
        where
          start_fits : (s : Stage) → StageHas (Counts (Between x.branches b)) (Counts (Between x.branches b)) s → Fits c s → x.branches ≤ c
          start_fits (going y) between f = let more = between.0 in omega (arith, more, f)
          start_fits (over y) between f = let more = between.0 in omega (arith, more, f)
          start_fits (spent y) between f = absurd f

  closed_fits : (b c : ℕ) (settled : List SettledPair) (s : Stage) → Fits c (closed (within b) settled s) → Fits c s
  closed_fits b c settled (going a) h = h
  closed_fits b c settled (over a) h = h
  closed_fits b c settled (spent a) h = h

  same_closed : (b c : ℕ) (settled : List SettledPair) (s : Stage) → closed (within c) settled s ≡ closed (within b) settled s
  same_closed b c settled (going a) = refl
  same_closed b c settled (over a) = refl
  same_closed b c settled (spent a) = refl

  pub same_ascent : (b c : ℕ) (settled : List SettledPair) (most : ℕ) (prices : List ℤ) (best : Incumbent) (branches : ℕ) → branches ≤ b
      → Fits c (ascended (within b) settled most prices best branches)
      → ascended (within c) settled most prices best branches ≡ ascended (within b) settled most prices best branches
  same_ascent b c settled most prices best branches below fits =
      let start = first_ascent (within b) prices best branches in
      ap (closed (within c) settled) (same_rounds b c settled most start below (closed_fits b c settled (rounds (within b) settled most start) fits))
      ∙ same_closed b c settled (rounds (within b) settled most start)

  -- The same of walks.

  abbrev pub WalkHas : (ℕ → Type 0) → (ℕ → Type 0) → Walked → Type 0
  WalkHas P Q (whole tree now) = P now.branches
  WalkHas P Q (cut now) = Q now.branches

  abbrev pub BelowHas : ℕ → Option Below → Type 0
  BelowHas budget None = Unit {0}
  BelowHas budget (Some below) = (settled : List SettledPair) (prices : List ℤ) (now : Progress) → now.branches ≤ budget
      → WalkHas (Between now.branches budget) (Between now.branches budget) (below settled prices now)

  pub walk_more : (least more budget : ℕ) (w : Walked) → least ≤ more → WalkHas (Between more budget) (Between more budget) w → WalkHas (Between least budget) (Between least budget) w
  walk_more least more budget (whole tree now) h k = let below = k.0 in (omega (arith, h, below), k.1)
  walk_more least more budget (cut now) h k = let below = k.0 in (omega (arith, h, below), k.1)

  pub second_has : (P Q : ℕ → Type 0) (c : OpenPair) (bound : LowerBound) (first : WalkedTree) (w : Walked) → WalkHas P Q w → WalkHas P Q (after_second c bound first w)
  second_has P Q c bound first (whole second now) h = h
  second_has P Q c bound first (cut now) h = h

  pub first_has : (budget least : ℕ) (below : Below) → BelowHas budget (Some below) → (c : OpenPair) (bound : LowerBound) (settled : List SettledPair) (w : Walked)
      → WalkHas (Between least budget) (Between least budget) w → WalkHas (Between least budget) (Between least budget) (after_first below c bound settled w)
  first_has budget least below ok c bound settled (whole first now) h =
      let next = below (with_pair c.seg (behind c) (ahead c) settled) bound.prices now in
      walk_more least now.branches budget (after_second c bound first next) h.0
      (second_has (Between now.branches budget) (Between now.branches budget) c bound first next (ok (with_pair c.seg (behind c) (ahead c) settled) bound.prices now h.1))
  first_has budget least below ok c bound settled (cut now) h = h

  pair_has : (budget least : ℕ) (below : Option Below) → BelowHas budget below → (c : OpenPair) (settled : List SettledPair) (a : Ascent) → Between least budget a.branches
      → WalkHas (Between least budget) (Between least budget) (at_pair below c settled a)
  pair_has budget least None ok c settled a h = h
  pair_has budget least (Some below) ok c settled a h =
      let next = below (with_pair c.seg (ahead c) (behind c) settled) a.bound.prices (progress a) in
      first_has budget least below ok c a.bound settled next
      (walk_more least a.branches budget next h.0 (ok (with_pair c.seg (ahead c) (behind c) settled) a.bound.prices (progress a) h.1))

  open_has : (budget least : ℕ) (below : Option Below) → BelowHas budget below → (settled : List SettledPair) (a : Ascent) → Between least budget a.branches
      → (o : Option OpenPair) → WalkHas (Between least budget) (Between least budget) (at_open p below settled a o)
  open_has budget least below ok settled a h None = h
  open_has budget least below ok settled a h (Some c) = pair_has budget least below ok c settled a h

  node_has : (budget least : ℕ) (below : Option Below) → BelowHas budget below → (settled : List SettledPair) (a : Ascent) → Between least budget a.branches
      → WalkHas (Between least budget) (Between least budget) (at_node p below settled a)
  node_has budget least below ok settled a h = by_test (is_shown a)
    where
      by_test : (t : Bool) → WalkHas (Between least budget) (Between least budget)
          (cond t (whole (stopped (listed a.bound.prices)) (progress a)) (at_open p below settled a (next_pair p settled a.averages)))
      by_test true = h
      by_test false = open_has budget least below ok settled a h (next_pair p settled a.averages)

  node_between : (budget least : ℕ) (below : Option Below) → BelowHas budget below → (settled : List SettledPair) (s : Stage)
      → StageHas (Counts (Between least budget)) (Counts (Between least budget)) s → WalkHas (Between least budget) (Between least budget) (after_rounds p below settled s)
  node_between budget least below ok settled (going a) h = node_has budget least below ok settled a h
  node_between budget least below ok settled (over a) h = node_has budget least below ok settled a h
  node_between budget least below ok settled (spent a) h = h

  pub walk_between : (budget room most : ℕ) (settled : List SettledPair) (prices : List ℤ) (now : Progress) → now.branches ≤ budget
      → WalkHas (Between now.branches budget) (Between now.branches budget) (walked (within budget) room most settled prices now)
  walk_between budget zero most settled prices now h =
      node_between budget now.branches None tt settled (ascended (within budget) settled most prices now.incumbent now.branches)
      (ascent_between budget settled most prices now.incumbent now.branches h)
  walk_between budget (suc room) most settled prices now h =
      node_between budget now.branches (Some (walked (within budget) room 200)) (λ settled prices now k. walk_between budget room 200 settled prices now k) settled
      (ascended (within budget) settled most prices now.incumbent now.branches)
      (ascent_between budget settled most prices now.incumbent now.branches h)

  -- it comes to its end, and counts at most so many
  abbrev pub WalkFits : ℕ → Walked → Type 0
  WalkFits most w = WalkHas (λ n. n ≤ most) (λ n. ⊥) w

  last_fits : (least b c : ℕ) (w : Walked) → WalkHas (Between least b) (Between least b) w → WalkFits c w → least ≤ c
  last_fits least b c (whole tree now) h k = let below = h.0 in omega (arith, below, k)
  last_fits least b c (cut now) h k = absurd k

  second_fits : (c : ℕ) (o : OpenPair) (bound : LowerBound) (first : WalkedTree) (w : Walked) → WalkFits c (after_second o bound first w) → WalkFits c w
  second_fits c o bound first (whole second now) h = h
  second_fits c o bound first (cut now) h = h

  -- below a node, where the one budget allows it, the other gives the same
  abbrev Agrees : ℕ → ℕ → Option Below → Option Below → Type 0
  Agrees b c None None = Unit {0}
  Agrees b c None (Some other) = ⊥
  Agrees b c (Some below) None = ⊥
  Agrees b c (Some below) (Some other) =
      (settled : List SettledPair) (prices : List ℤ) (now : Progress) → now.branches ≤ b → WalkFits c (below settled prices now) → other settled prices now ≡ below settled prices now

  same_first : (b c : ℕ) (below other : Below) → BelowHas b (Some below) → Agrees b c (Some below) (Some other) → (o : OpenPair) (bound : LowerBound) (settled : List SettledPair) (w : Walked)
      → WalkHas (λ n. n ≤ b) (λ n. Unit {0}) w → WalkFits c (after_first below o bound settled w) → after_first other o bound settled w ≡ after_first below o bound settled w
  same_first b c below other ok same o bound settled (whole first now) h fits =
      let pair = with_pair o.seg (behind o) (ahead o) settled in
      ap (after_second o bound first) (same pair bound.prices now h (second_fits c o bound first (below pair bound.prices now) fits))
  same_first b c below other ok same o bound settled (cut now) h fits = refl

  first_fits : (b c : ℕ) (below : Below) → BelowHas b (Some below) → (o : OpenPair) (bound : LowerBound) (settled : List SettledPair) (w : Walked)
      → WalkHas (λ n. n ≤ b) (λ n. Unit {0}) w → WalkFits c (after_first below o bound settled w) → WalkFits c w
  first_fits b c below ok o bound settled (whole first now) h fits =
      let pair = with_pair o.seg (behind o) (ahead o) settled in
      last_fits now.branches b c (below pair bound.prices now) (ok pair bound.prices now h) (second_fits c o bound first (below pair bound.prices now) fits)
  first_fits b c below ok o bound settled (cut now) h fits = fits

  walk_most : (least b : ℕ) (w : Walked) → WalkHas (Between least b) (Between least b) w → WalkHas (λ n. n ≤ b) (λ n. Unit {0}) w
  walk_most least b (whole tree now) h = h.1
  walk_most least b (cut now) h = tt

  same_pair : (b c : ℕ) (below other : Option Below) → BelowHas b below → Agrees b c below other → (o : OpenPair) (settled : List SettledPair) (a : Ascent) → a.branches ≤ b
      → WalkFits c (at_pair below o settled a) → at_pair other o settled a ≡ at_pair below o settled a
  same_pair b c None None ok same o settled a h fits = refl
  same_pair b c None (Some other) ok same o settled a h fits = absurd same
  same_pair b c (Some below) None ok same o settled a h fits = absurd same
  same_pair b c (Some below) (Some other) ok same o settled a h fits =
      let pair = with_pair o.seg (ahead o) (behind o) settled in
      let first = below pair a.bound.prices (progress a) in
      let most = walk_most a.branches b first (ok pair a.bound.prices (progress a) h) in
      ap (after_first other o a.bound settled) (same pair a.bound.prices (progress a) h (first_fits b c below ok o a.bound settled first most fits))
      ∙ same_first b c below other ok same o a.bound settled first most fits

  same_open : (b c : ℕ) (below other : Option Below) → BelowHas b below → Agrees b c below other → (settled : List SettledPair) (a : Ascent) → a.branches ≤ b
      → (o : Option OpenPair) → WalkFits c (at_open p below settled a o) → at_open p other settled a o ≡ at_open p below settled a o
  same_open b c below other ok same settled a h None fits = refl
  same_open b c below other ok same settled a h (Some o) fits = same_pair b c below other ok same o settled a h fits

  same_node : (b c : ℕ) (below other : Option Below) → BelowHas b below → Agrees b c below other → (settled : List SettledPair) (a : Ascent) → a.branches ≤ b
      → WalkFits c (at_node p below settled a) → at_node p other settled a ≡ at_node p below settled a
  same_node b c below other ok same settled a h fits = by_test (is_shown a) fits
    where
      stop : Walked
      stop = whole (stopped (listed a.bound.prices)) (progress a)

      by_test : (t : Bool) → WalkFits c (cond t (whole (stopped (listed a.bound.prices)) (progress a)) (at_open p below settled a (next_pair p settled a.averages)))
          → cond t (whole (stopped (listed a.bound.prices)) (progress a)) (at_open p other settled a (next_pair p settled a.averages))
          ≡ cond t (whole (stopped (listed a.bound.prices)) (progress a)) (at_open p below settled a (next_pair p settled a.averages))
      by_test true k = refl
      by_test false k = same_open b c below other ok same settled a h (next_pair p settled a.averages) k

  same_after : (b c : ℕ) (below other : Option Below) → BelowHas b below → Agrees b c below other → (settled : List SettledPair) (s : Stage) → StageHas (λ a. a.branches ≤ b) (λ a. Unit {0}) s
      → WalkFits c (after_rounds p below settled s) → after_rounds p other settled s ≡ after_rounds p below settled s
  same_after b c below other ok same settled (going a) h fits = same_node b c below other ok same settled a h fits
  same_after b c below other ok same settled (over a) h fits = same_node b c below other ok same settled a h fits
  same_after b c below other ok same settled (spent a) h fits = refl

  stage_fits : (b c : ℕ) (below : Option Below) → BelowHas b below → (settled : List SettledPair) (s : Stage) → StageHas (λ a. a.branches ≤ b) (λ a. Unit {0}) s
      → WalkFits c (after_rounds p below settled s) → Fits c s
  stage_fits b c below ok settled (going a) h fits = last_fits a.branches b c (at_node p below settled a) (node_has b a.branches below ok settled a (omega (arith), h)) fits
  stage_fits b c below ok settled (over a) h fits = last_fits a.branches b c (at_node p below settled a) (node_has b a.branches below ok settled a (omega (arith), h)) fits
  stage_fits b c below ok settled (spent a) h fits = fits

  stage_most : (least b : ℕ) (s : Stage) → StageHas (Counts (Between least b)) (Counts (Between least b)) s → StageHas (λ a. a.branches ≤ b) (λ a. Unit {0}) s
  stage_most least b (going a) h = h.1
  stage_most least b (over a) h = h.1
  stage_most least b (spent a) h = tt

  -- a walk that one budget allows
  pub same_walk : (b c room most : ℕ) (settled : List SettledPair) (prices : List ℤ) (now : Progress) → now.branches ≤ b → WalkFits c (walked (within b) room most settled prices now)
      → walked (within c) room most settled prices now ≡ walked (within b) room most settled prices now
  same_walk b c zero most settled prices now h fits =
      let s = ascended (within b) settled most prices now.incumbent now.branches in
      let few = stage_most now.branches b s (ascent_between b settled most prices now.incumbent now.branches h) in
      ap (after_rounds p None settled) (same_ascent b c settled most prices now.incumbent now.branches h (stage_fits b c None tt settled s few fits))
  same_walk b c (suc room) most settled prices now h fits =
      let s = ascended (within b) settled most prices now.incumbent now.branches in
      let few = stage_most now.branches b s (ascent_between b settled most prices now.incumbent now.branches h) in
      let ok : BelowHas b (Some (walked (within b) room 200)) = λ settled prices now k. walk_between b room 200 settled prices now k in
      let same : Agrees b c (Some (walked (within b) room 200)) (Some (walked (within c) room 200)) = λ settled prices now k g. same_walk b c room 200 settled prices now k g in
      ap (after_rounds p (Some (walked (within c) room 200)) settled)
      (same_ascent b c settled most prices now.incumbent now.branches h (stage_fits b c (Some (walked (within b) room 200)) ok settled s few fits))
      ∙ same_after b c (Some (walked (within b) room 200)) (Some (walked (within c) room 200)) ok same settled s few fits

  -- Results.

  abbrev root_walk : ℕ → Walked
  root_walk budget = walked (within budget) most_forks root_rounds [] (zeros p) (first_progress p)

  -- no more branch nodes are counted than the budget
  pub branches_within : (budget : ℕ) → (dual_result p budget).branches ≤ budget
  branches_within budget = by_walk (root_walk budget) (walk_between budget most_forks root_rounds [] (zeros p) (first_progress p) (omega (arith)))
    where
      by_walk : (w : Walked) → WalkHas (Between 0 budget) (Between 0 budget) w → (result_after (root_bound (within budget)) w).branches ≤ budget
      by_walk (whole tree now) h = h.1
      by_walk (cut now) h = h.1

  -- a search that came to its end does so, in the same way, with each budget of at least its branch nodes
  pub same_result : (b c : ℕ) → (dual_result p b).complete ≡ true → (dual_result p b).branches ≤ c → dual_result p c ≡ dual_result p b
  same_result b c complete few =
      by_walk (root_walk b) complete few (root_walk c) (λ fits. same_walk b c most_forks root_rounds [] (zeros p) (first_progress p) (omega (arith)) fits)
    where
      by_walk : (w : Walked) → (result_after (root_bound (within b)) w).complete ≡ true → (result_after (root_bound (within b)) w).branches ≤ c → (v : Walked) → (WalkFits c w → v ≡ w)
          → result_after (root_bound (within c)) v ≡ result_after (root_bound (within b)) w
      by_walk (whole tree now) done few v same = ap (result_after (root_bound (within c))) (same few)
      by_walk (cut now) done few v same = absurd (true≢false (sym done))
