-- Runs of an attempt are laid one after another: what is known between two of them, and how it ends.
use Rattle.std.proofs.Common.{◌≡◌, refl, sym, ◌∙◌, ap, ap₂, subst, ℕ, zero, suc, ◌+◌, ◌-◌, ◌<◌, ◌≤◌, true, false, cond, eqb, min, nat_lt, List, [], ◌∷◌, length, ◌++◌, drop, fold, take, get_or, Some, None, inl, arith}
use Rattle.drawing_search.proofs.Common.{all_in, all_laid, any_at, any_from, drop_all, drop_more, end_of, false_from}
use Rattle.drawing_search.proofs.Common.{gains_at_least, if_below, if_laid, in_at, inner_nodes, is_on_runs, laid}
use Rattle.drawing_search.proofs.Common.{laid_on, least_between, list_any, lt-ltb, point_of_node, run_gain}
use Rattle.drawing_search.proofs.Common.{sketch_weight, take_more, true≢false, without_run, AreAlike, AreAllLaid}
use Rattle.drawing_search.proofs.Common.{AreBeside, AreLayable, AreTakable, Chain, ChainStep, GraphParts, GridPoint}
use Rattle.drawing_search.proofs.Common.{HaveBounds, In, IsBoundOf, IsClearFor, IsConsistent, IsFreeFor, IsLegalSketch}
use Rattle.drawing_search.proofs.Common.{IsRun, LeastTurns, NodeId, Scale, Sketch}
use Rattle.drawing_search.proofs.LaidBack.{none_so_far, one_more_so_far, so_far_alike, so_far_takable, IsSoFar}
use Rattle.drawing_search.proofs.LayingAll.{least_of, next_gained, next_ready, no_room, same_least, IsReady}
use Rattle.drawing_search.proofs.Laid.{clear_of}
use Rattle.drawing_search.proofs.Takable.{in_taken}

-- what runs add at least, one after another, as far as that is no more than a number
pub gains_step : (f : NodeId → GridPoint) (cs : List Chain) (ls : List LeastTurns) (i : ℕ) (c : Chain) (e : LeastTurns) (p q : GridPoint) (most total b new all : ℕ) → i < length cs → length ls ≡ length cs → c ≡ get_or cs i c
    → p ≡ f c.from → q ≡ f (end_of c) → b ≡ least_between (get_or ls i e) p q → new ≡ min most (total + b) → min most (total + gains_at_least f (drop i cs) (drop i ls)) ≡ all
    → min most (new + gains_at_least f (drop (i + 1) cs) (drop (i + 1) ls)) ≡ all
gains_step f cs ls i c e p q most total b new all below each is from to adds sum before =
    let next : gains_at_least f (drop i cs) (drop i ls) ≡ least_between (get_or ls i e) (f c.from) (f (end_of c)) + gains_at_least f (drop (i + 1) cs) (drop (i + 1) ls) =
    ap₂ (gains_at_least f) (drop_more cs i c below ∙ ap (λ (x : Chain). x ∷ drop (i + 1) cs) (sym is)) (drop_more ls i e (omega (arith, below, each))) in
    let same : b ≡ least_between (get_or ls i e) (f c.from) (f (end_of c)) = adds ∙ ap₂ (λ (x y : GridPoint). least_between (get_or ls i e) x y) from to in
    capped most total b new (gains_at_least f (drop (i + 1) cs) (drop (i + 1) ls)) (gains_at_least f (drop i cs) (drop i ls)) all (next ∙ ap (λ n. n + gains_at_least f (drop (i + 1) cs) (drop (i + 1) ls)) (sym same)) sum before
  where
    capped : (m t x n r g a : ℕ) → g ≡ x + r → n ≡ min m (t + x) → min m (t + g) ≡ a → min m (n + r) ≡ a
    capped m t x n r g a u v w = omega (arith, u, v, w)

-- between two runs: those that are left may be laid on what there is, and those that were laid may be taken away
pub record IsLayingAll (scale : Scale) (graph : GraphParts) (first : List GridPoint) (runs : List Chain) (least : List LeastTurns) (start : Sketch) (limit : ℕ) (i : ℕ) (k : Sketch) (weight ahead : ℕ) : Type 0 where
  pub rest : all_laid graph (drop i runs) k ≡ all_laid graph runs start
  pub ready : IsReady scale graph k (drop i runs) (drop i least)
  pub weight_is : weight ≡ sketch_weight scale graph first k
  pub ahead_is : ahead ≡ least_of k (drop i runs) (drop i least)
  pub less : weight + ahead < limit
  pub so_far : IsSoFar (take i runs) start k

module _ (graph : GraphParts) (fit : IsConsistent graph) (scale : Scale) (first : List GridPoint) (runs : List Chain) (least : List LeastTurns) (start : Sketch) (limit : ℕ) (layable : AreLayable graph start runs) (each : length least ≡ length runs) where
  run : (c : Chain) → In c runs → IsRun graph c
  run c i = all_in (IsRun graph) runs c (λ k d h. layable.runs k d h) i

  clear : (c : Chain) → In c runs → IsClearFor start c
  clear c i = clear_of start c (all_in (IsFreeFor start) runs c (λ k d h. layable.free k d h) i)

  pub lay_begins : (weight ahead : ℕ) → HaveBounds scale graph start runs least → weight ≡ sketch_weight scale graph first start → ahead ≡ gains_at_least (λ (n : NodeId). point_of_node start n.0) runs least → weight + ahead < limit
      → IsLayingAll scale graph first runs least start limit 0 start weight ahead
  lay_begins weight ahead have weighs gains less = record {
    rest = refl;
    ready = record { legal = layable.legal; runs = run; beside = layable.beside; clear = clear; have = have };
    weight_is = weighs;
    ahead_is = gains;
    less = less;
    so_far = none_so_far start;
  }

  front_beside : (j : ℕ) (xs : List Chain) → AreBeside xs → AreBeside (take j xs)
  front_beside zero xs beside = tt
  front_beside (suc j) [] beside = tt
  front_beside (suc j) (x ∷ xs) beside = (λ t there. of_front t (beside.0 t there), front_beside j xs beside.1)
    where
      of_front : (t : ChainStep) → is_on_runs xs t.seg.0 ≡ false → is_on_runs (take j xs) t.seg.0 ≡ false
      of_front t e = false_from (is_on_runs (take j xs) t.seg.0) (λ f. by_run (any_at (λ (c : Chain). list_any (λ (u : ChainStep). eqb u.seg.0 t.seg.0) c.steps) (take j xs) f))
        where
          by_run : (c : Chain) × In c (take j xs) × (list_any (λ (u : ChainStep). eqb u.seg.0 t.seg.0) c.steps ≡ true) → ⊥
          by_run (c, i, g) = true≢false (sym (any_from (λ (x : Chain). list_any (λ (u : ChainStep). eqb u.seg.0 t.seg.0) x.steps) xs c (in_taken xs j c i) g) ∙ e)

  -- those that were laid may be taken away, and then nothing that stands has changed
  module _ (i : ℕ) (k : Sketch) (legal : IsLegalSketch graph k) (s : IsSoFar (take i runs) start k) where
    pub laid_takable : AreTakable graph k (take i runs)
    laid_takable = so_far_takable graph fit (take i runs) start k legal (λ c m. run c (in_taken runs i c m)) (front_beside i runs layable.beside) (λ c m. clear c (in_taken runs i c m)) s

    pub laid_given_up : (fin : Sketch) → fin ≡ fold without_run k (take i runs) → if_below (sketch_weight scale graph first) limit (all_laid graph runs start) ≡ None → AreAllLaid scale graph first limit runs start fin None
    laid_given_up fin is none =
        (none, subst (λ (j : Sketch). AreAlike j start) (sym is) (so_far_alike graph fit (take i runs) start k legal (λ c m. run c (in_taken runs i c m)) (front_beside i runs layable.beside) (λ c m. clear c (in_taken runs i c m)) s))

  module _ (i : ℕ) (k : Sketch) (weight ahead : ℕ) (a : IsLayingAll scale graph first runs least start limit i k weight ahead) where
    -- all were laid
    pub laid_all : length runs ≤ i → AreAllLaid scale graph first limit runs start k (Some weight)
    laid_all past =
        let none : drop i runs ≡ [] = drop_all i runs past in
        let there : all_laid graph runs start ≡ Some k = sym a.rest ∙ ap (λ (cs : List Chain). all_laid graph cs k) none in
        let lighter : nat_lt (sketch_weight scale graph first k) limit ≡ true = lt-ltb (sketch_weight scale graph first k) limit (omega (arith, a.less, a.weight_is)) in
        (ap (if_below (sketch_weight scale graph first) limit) there ∙ ap (λ b. cond b (Some k) None) lighter, a.weight_is)

    -- the next run
    module _ (below : i < length runs) (c : Chain) (is_next : c ≡ get_or runs i c) where
      abbrev cs : List Chain
      cs = drop (i + 1) runs

      abbrev ls : List LeastTurns
      ls = drop (i + 1) least

      abbrev from : GridPoint
      from = point_of_node k c.from.0

      abbrev to : GridPoint
      to = point_of_node k (end_of c).0

      runs_left : drop i runs ≡ c ∷ cs
      runs_left = drop_more runs i c below ∙ ap (λ (x : Chain). x ∷ cs) (sym is_next)

      is_left : In c (drop i runs)
      is_left = subst (In c) (sym runs_left) (inl refl)

      pub run_next : IsRun graph c
      run_next = a.ready.runs c is_left

      clear_next : IsClearFor k c
      clear_next = a.ready.clear c is_left

      pub free_next : IsFreeFor k c
      free_next = record {
        from = clear_next.from;
        end = clear_next.end;
        inner = λ j x h. clear_next.inner (get_or (inner_nodes c.steps) j x) (in_at (inner_nodes c.steps) j x h);
        walks = λ j x h. clear_next.walks (get_or c.steps j x) (in_at c.steps j x h);
      }

      rest : all_laid graph (c ∷ cs) k ≡ all_laid graph runs start
      rest = ap (λ (xs : List Chain). all_laid graph xs k) (sym runs_left) ∙ a.rest

      -- and its bounds
      module _ (e : LeastTurns) where
        abbrev l : LeastTurns
        l = get_or least i e

        least_left : drop i least ≡ l ∷ ls
        least_left = drop_more least i e (omega (arith, below, each))

        ready : IsReady scale graph k (c ∷ cs) (l ∷ ls)
        ready = subst (λ (xs : List Chain). IsReady scale graph k xs (l ∷ ls)) runs_left (subst (λ (ys : List LeastTurns). IsReady scale graph k (drop i runs) ys) least_left a.ready)

        pub bound_next : IsBoundOf scale graph k c l
        bound_next = ready.have.0

        -- what is ahead with it, and without it
        next_ahead : ahead ≡ least_between l from to + least_of k cs ls
        next_ahead = a.ahead_is ∙ ap₂ (least_of k) runs_left least_left

        module _ (b : ℕ) (is : b ≡ least_between l from to) where
          left_ahead : ahead - b ≡ least_of k cs ls
          left_ahead = let next = next_ahead in omega (arith, next, is)

          pub ahead_enough : b ≤ ahead
          ahead_enough = let next = next_ahead in omega (arith, next, is)

          pub room_next : weight + least_between l from to + (ahead - b) < limit
          room_next = let next = next_ahead in omega (arith, next, is, a.less)

          -- the run was not laid, and the drawing gets no lighter
          pub lay_ends : ((mid : Sketch) → laid graph c k ≡ Some mid → limit ≤ weight + run_gain scale graph first mid c + (ahead - b)) → if_below (sketch_weight scale graph first) limit (all_laid graph runs start) ≡ None
          lay_ends heavy =
              ap (if_below (sketch_weight scale graph first) limit) (sym rest)
              ∙ no_room graph fit scale first c cs l ls k ready limit (λ mid e. omega (arith, heavy mid e, left_ahead, a.weight_is))

          -- or it was, and what is left goes on
          pub lay_more : (mid : Sketch) (more : ℕ) → laid graph c k ≡ Some mid → more ≡ weight + run_gain scale graph first mid c → more + (ahead - b) < limit → IsLayingAll scale graph first runs least start limit (i + 1) mid more (ahead - b)
          lay_more mid more there weighs less = record {
            rest = ap (if_laid (all_laid graph cs)) (sym there) ∙ rest;
            ready = next_ready graph fit scale first c cs l ls k ready mid there;
            weight_is = let grown = (next_gained graph fit scale first c cs l ls k ready mid there).weight in omega (arith, grown, a.weight_is, weighs);
            ahead_is = left_ahead ∙ sym (same_least graph fit scale first c cs l ls k ready mid there);
            less = less;
            so_far = subst (λ (xs : List Chain). IsSoFar xs start mid) (sym (take_more runs i c below ∙ ap (λ (x : Chain). take i runs ++ x ∷ []) (sym is_next)))
                (one_more_so_far graph fit (take i runs) c start k mid ready.legal run_next clear_next (laid_on graph fit c k mid ready.legal run_next clear_next there) a.so_far);
          }
